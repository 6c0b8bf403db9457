use Rattle.std.proofs.Common.{arith}
use Rattle.session_texts.proofs.Drafts.{size_is}
use Rattle.session_texts.proofs.draft.Draft.size.Goals as goal

pub returns-clause-value : goal.returns-clause-value
returns-clause-value c = let h = size_is c.self.inside.deposits.items c.self.inside.events.items in rw (c.width.ensures, c.width-2.ensures, ← c.self.view_is) (omega arith)
