use Rattle.std.proofs.Common.{refl}
use Rattle.cns_book.proofs.parts.Parts.position_refusal.Goals as goal

pub returns-then-not-is_account : goal.returns-then-not-is_account
returns-then-not-is_account g c = λ L f. rw (← c.is_account.ensures L f, c.if-not-is_account.true) refl
