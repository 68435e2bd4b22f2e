use Rattle.play_midend.proofs.MoveListLaws.{undo_leads_back}
use Rattle.play_midend.proofs.session_laws.move_list_laws.Goals as goal

pub returns-clause-undo_leads_back : goal.returns-clause-undo_leads_back
returns-clause-undo_leads_back g c = undo_leads_back _
