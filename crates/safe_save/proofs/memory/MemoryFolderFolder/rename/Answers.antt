use Rattle.std.proofs.Common.{refl}
use Rattle.safe_save.proofs.Crashes.{not_moved}
use Rattle.safe_save.proofs.memory.MemoryFolderFolder.rename.Goals as goal

pub returns-in_err-count_call-clause-crash : goal.returns-in_err-count_call-clause-crash
returns-in_err-count_call-clause-crash c tells = not_moved c.args.from.now c.args.to.now c.args.self.now.changes.items c.args.self.now.changes.items (λ n. refl)

pub returns-then-self-clause-crash : goal.returns-then-self-clause-crash
returns-then-self-clause-crash c tells = not_moved c.args.from.now c.args.to.now c.args.self.now.changes.items c.args.self.now.changes.items (λ n. refl)

pub returns-then-is_none-clause-crash : goal.returns-then-is_none-clause-crash
returns-then-is_none-clause-crash c tells = not_moved c.args.from.now c.args.to.now c.args.self.now.changes.items c.args.self.now.changes.items (λ n. refl)
