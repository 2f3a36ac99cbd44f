-- A thing whose mark no thing before it has is other than those.
use Prim.Native.Nat.{ℕ, ◌+◌, ◌<◌}
use native.Mathlib.Omega.{arith}
use mathlib.Core.Bool.{Bool, true, false}
use mathlib.Core.List.{List}
use mathlib.Core.Path.{◌≡◌, ◌∙◌}
use lib.ListN.{replicate, length-replicate}
use Rattle.base.specs.Below.{any}
use Rattle.base.proofs.Truth.{is_false}
use Rattle.base.proofs.Below.{any_found}
use Rattle.base.proofs.Marks.{marked_none, marked_more, unmarked}
use Rattle.bits.specs.Row.{bit_at, put_bit}
use Rattle.bits.proofs.Row.{length_put, bit_at_put}
use Rattle.marks.specs.New.{marks, mark_bytes, Seen}

module _ {mark : ℕ → ℕ} where
  pub seen_none : Seen mark (replicate mark_bytes 0) 0
  seen_none = record { long = length-replicate {A = ℕ} mark_bytes 0; marked = marked_none mark _ }

  pub seen_more : (seen : List ℕ) (e m : ℕ) → m ≡ mark e → m < marks → Seen mark seen e → Seen mark (put_bit seen m) (e + 1)
  seen_more seen e m m-is fits all = record {
    long = length_put seen m ∙ all.long;
    marked = marked_more mark (bit_at seen) _ e m all.marked m-is (λ x. bit_at_put seen m x (omega (arith, all.long)));
  }

  module _ (same : ℕ → ℕ → Bool) (same_mark : (e d : ℕ) → same e d ≡ true → mark e ≡ mark d) where
    pub unseen_new : (seen : List ℕ) (e m : ℕ) → m ≡ mark e → Seen mark seen e → bit_at seen m ≡ false → any e (same e) ≡ false
    unseen_new seen e m m-is all out = is_false (any e (same e)) (λ t.
        let found = any_found e (same e) t in
        unmarked mark (bit_at seen) e m all.marked out found.0 found.1 (m-is ∙ same_mark e found.0 found.2))
