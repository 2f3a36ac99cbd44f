-- The pairs and the joined texts of a list are those of its parts, one after the other; so their lengths add up.
use Prim.Native.Nat.{ℕ, suc, ◌+◌, ◌*◌, ◌≤◌, ◌<◌}
use native.Mathlib.Nat.{add-zero, add_assoc}
use native.Mathlib.Omega.{arith}
use mathlib.Core.List.{List, [], ◌∷◌, ◌++◌, append_assoc, append-nil}
use mathlib.Core.Path.{◌≡◌, refl, sym, ap}
use lib.ListN.{length, get_or, length-append}
use Rattle.base.specs.Tab.{tab}
use Rattle.base.proofs.Tab.{tab_more}
use Rattle.pairs.specs.Pairs.{first_offset}
use Rattle.sheets.specs.Sheet.{pairs_at}
use Rattle.sheets.specs.Made.{pair_bytes, pairs_from, joined, sheet_of}

pub joined-append : (a b : List (List ℕ)) → joined (a ++ b) ≡ joined a ++ joined b
unfolding joined
joined-append [] b = refl
joined-append (text ∷ a) b = rw (joined-append a b) (sym (append_assoc text (joined a) (joined b)))

-- the pairs of b start where the texts of a end
pub pairs-append : (o : ℕ) (a b : List (List ℕ)) → pairs_from o (a ++ b) ≡ pairs_from o a ++ pairs_from (o + length (joined a)) b
unfolding pairs_from joined
pairs-append o [] b = ap (λ (k : ℕ). pairs_from k b) (sym (add-zero o))
pairs-append o (text ∷ a) b = rw (pairs-append (o + length text) a b, length-append, add_assoc)

-- the first k texts, and one more

pub joined_more : (k : ℕ) (f : ℕ → List ℕ) → joined (tab (suc k) f) ≡ joined (tab k f) ++ f k
unfolding joined
joined_more k f = rw (tab_more, joined-append, append-nil)

pub pairs_more : (o k : ℕ) (f : ℕ → List ℕ)
    → pairs_from o (tab (suc k) f) ≡ pairs_from o (tab k f) ++ pair_bytes (o + length (joined (tab k f))) (length (f k))
unfolding pairs_from
pairs_more o k f = rw (tab_more, pairs-append)

-- each pair has four bytes
pub pairs-length : (o : ℕ) (texts : List (List ℕ)) → length (pairs_from o texts) ≡ 4 * length texts
unfolding pairs_from
pairs-length o [] = refl
pairs-length o (text ∷ texts) = omega (arith, pairs-length (o + length text) texts)

-- a sheet has the bytes up to its first text, and the texts
pub sheet_length : (period : ℕ) (texts : List (List ℕ))
    → length (sheet_of period texts) ≡ first_offset pairs_at (length texts) + length (joined texts)
unfolding sheet_of
sheet_length period texts = rw (length-append, pairs-length) (omega arith)

-- texts of at most 37 bytes each
pub joined_most : (texts : List (List ℕ)) → ((k : ℕ) → k < length texts → length (get_or texts k []) ≤ 37)
    → length (joined texts) ≤ 37 * length texts
unfolding joined
joined_most [] short = omega arith
joined_most (text ∷ texts) short =
    rw length-append (omega (arith, short 0 (omega arith), joined_most texts (λ k l. short (suc k) (omega arith))))
