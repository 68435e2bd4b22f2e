use Rattle.play_save.proofs.saving.put_value.Goals as goal

pub returns-in-SaveFile : goal.returns-in-SaveFile
returns-in-SaveFile g c = rw c.in-SaveFile.is (rw c.in-SaveFile.is at c.put_header.ensures)
