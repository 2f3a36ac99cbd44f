use mathlib.Core.Path.{sym, ◌∙◌}
use Rattle.field_state.proofs.Hashes.{heard_there, new_room}
use borrow.Author.Rules.{rules}
use Rattle.field_state.proofs.heard.hear.Goals as goal

pub returns-then-is_heard : goal.returns-then-is_heard
returns-then-is_heard c = search heard_there

pub append-requires : goal.append-requires
append-requires c = (search rules, search new_room, sym c.is_heard.ensures ∙ c.if-is_heard.false)
