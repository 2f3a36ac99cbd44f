-- A repeat answered 0 sends again: a signature, a share or a hash asked for twice is answered and sent twice, and the
-- second changes nothing.
use Prim.Native.Nat.{ℕ}
use native.Mathlib.Omega.{arith}
use mathlib.Core.Bool.{Bool, true}
use mathlib.Core.Path.{◌≡◌, refl, ap, ◌∙◌}
use borrow.Author.Tests.{ne_eqb}
use Rattle.base.specs.Sets.{add2, add3}
use Rattle.base.proofs.Truth.{false_true}
use Rattle.base.proofs.Below.{any_ext}
use Rattle.base.proofs.Sets.{new2, new3, add2_again, add3_again}
use Rattle.rules.specs.Table.{Table}
use Rattle.rules.specs.Rules.{given_before}
use Rattle.field_rules.specs.Box.{Box, box_db, box_gave}
use Rattle.field_rules.specs.Message.{Message, handed, taken, fetched, told, signs, shares, closes, hashes, backs, falls, rises}
use Rattle.field_rules.specs.Rules.{field_rule, handle_answer, handle, repeats}

-- a share of the open period is none of an earlier one
given_later : (gave : ℕ → ℕ → Bool) (p x : ℕ) → given_before (add2 p x gave) p x ≡ given_before gave p x
unfolding add2
given_later gave p x = any_ext p _ _ (λ q l. rw (ne_eqb q p (λ e. omega (arith, l, e))))

module _ (T : Table) (j : ℕ) (b : Box) where
  -- the message once more, to the box that it left
  abbrev Again : Message → Type 0
  Again m = (handle T j b m).answer ≡ 0 → handle T j (handle T j b m).after m ≡ handle T j b m

  -- it is enough that the answer does not depend on what the message does, nor what is sent, and that doing it again
  -- changes nothing
  again : (m : Message) → handle_answer T j (field_rule T j b m).effect m ≡ handle_answer T j b m
      → (field_rule T j (field_rule T j b m).effect m).sends ≡ (field_rule T j b m).sends
      → (field_rule T j (field_rule T j b m).effect m).effect ≡ (field_rule T j b m).effect → Again m
  unfolding handle
  again m same sent there zero = rw (zero, same ∙ zero, sent, there)

  signs_again : (x : ℕ) → Again (signs x)
  unfolding field_rule handle_answer
  signs_again x = again (signs x) refl refl
      (ap (box_db b) (add3_again b.current x j (add3 b.current x j b.db) (new3 b.current x j b.db)))

  shares_again : (x : ℕ) → Again (shares x)
  unfolding field_rule handle_answer
  shares_again x = again (shares x) (rw (given_later b.gave b.current x)) refl
      (ap (box_gave b) (add2_again b.current x (add2 b.current x b.gave) (new2 b.current x b.gave)))

  hashes_again : (p : ℕ) → Again (hashes p)
  unfolding field_rule handle_answer
  hashes_again p = again (hashes p) refl refl refl

  pub sends_again : (m : Message) → repeats m ≡ true → Again m
  unfolding repeats
  sends_again (signs x) r = signs_again x
  sends_again (shares x) r = shares_again x
  sends_again (hashes p) r = hashes_again p
  sends_again (handed x) r = false_true r
  sends_again (taken k p x) r = false_true r
  sends_again (fetched k p rows) r = false_true r
  sends_again (told k p B) r = false_true r
  sends_again closes r = false_true r
  sends_again backs r = false_true r
  sends_again falls r = false_true r
  sends_again rises r = false_true r
