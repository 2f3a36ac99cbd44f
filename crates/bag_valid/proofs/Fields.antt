-- Laws of the four numbers of an entry, as the code tests them one after the other.
use Prim.Native.Nat.{ℕ, ◌^◌}
use native.Mathlib.Decide.{ℕ_discrete}
use mathlib.Core.Bool.{Bool, true, false, ◌&&◌, cond}
use mathlib.Core.List.{List}
use mathlib.Core.Path.{◌≡◌, refl, ap, ◌∙◌}
use lib.Dec.{eqb, ltb}
use borrow.Author.Tests.{ne_eqb}
use Rattle.base.specs.Bytes.{between}
use Rattle.base.proofs.Truth.{eqb_self}
use Rattle.rules.specs.declared.Entry.{Entry}
use Rattle.rules.specs.Bag.{kind_of, signer_of}
use Rattle.state.specs.Entries.{entry_of}
use Rattle.state.specs.Contents.{entry_at}
use Rattle.header.specs.declared.Head.{Head}
use Rattle.bag_valid.specs.BagOk.{entry_ok, entry_at_ok}
use Rattle.bag_valid.specs.Numbers.{signer_ok, four_ok, kind_at, signer_at, period_at, board_at}

-- the four numbers of an entry of the table
module _ (h : Head) (kind signer period board : ℕ) where
  -- the entry that they say, and what the definition asks of it

  abbrev said : Entry
  said = entry_of kind signer period board

  abbrev asked : Bool
  asked = eqb kind (kind_of said) && (eqb signer (signer_of said) && entry_ok h said)

  four_entry : four_ok h kind signer period board ≡ asked
  unfolding four_ok signer_ok entry_of
  four_entry = go (ℕ_discrete kind 1) (ℕ_discrete kind 2)
    where
      rest : Bool
      rest = ltb period h.periods && ltb board (2 ^ h.items)

      last : (a b c : Bool) → (cond a b (false && between 1 signer h.n) && c) ≡ (a && (b && c))
      last true b c = refl
      last false b c = refl

      go : Dec (kind ≡ 1) → Dec (kind ≡ 2) → four_ok h kind signer period board ≡ asked
      go (yes e) t = rw (e, eqb_self signer)
      go (no n) (yes e) = rw (e, eqb_self signer)
      go (no n) (no m) = rw (ne_eqb kind 1 n, ne_eqb kind 2 m) (last (eqb kind 3) (eqb signer 0) rest)

pub entry_at_lem : (h : Head) (s : List ℕ) (e board : ℕ) (r : Bool) → board ≡ board_at s e
    → r ≡ four_ok h (kind_at s e) (signer_at s e) (period_at s e) board → r ≡ entry_at_ok h s e
unfolding entry_at_ok entry_at
entry_at_lem h s e board r q p =
    p ∙ ap (four_ok h (kind_at s e) (signer_at s e) (period_at s e)) q ∙ four_entry h (kind_at s e) (signer_at s e) (period_at s e) (board_at s e)
