-- Laws of clashes: they are symmetric, no item clashes with itself, and items of two ballots do not clash.
use Prim.Native.Nat.{ℕ}
use mathlib.Core.Bool.{false, not}
use mathlib.Core.List.{List}
use Rattle.std.specs.Prelude.{Option, Some, None}
use mathlib.Core.Path.{◌≡◌, refl, sym, ap, ◌∙◌}
use borrow.Author.Tests.{ne_eqb}
use Rattle.base.specs.Bytes.{same_bytes}
use Rattle.base.proofs.Truth.{eqb_sym, and_false}
use Rattle.base.proofs.Bytes.{same_self, same_sym}
use Rattle.ballot.specs.declared.item.Kind.{Kind}
use Rattle.ballot.specs.declared.item.Kind.TheVariants.{Vote, Audit, PlacedAudit, Cancellation}
use Rattle.ballot.specs.declared.item.Audits.{Audits}
use Rattle.ballot.specs.declared.item.Item.{Item}
use Rattle.ballot.specs.Item.{read_item}
use Rattle.ballot.specs.Table.{audits_of, item_text}
use Rattle.clash.specs.Clash.{kinds_clash, readings_clash, clash, clash_in, ballot_at}
use Rattle.ballot.proofs.Readings.{good_read}

-- by what the items are

kinds_sym : (a b : Kind) → kinds_clash a b ≡ kinds_clash b a
kinds_sym (Vote m) (Vote n) = refl
kinds_sym (Vote m) Audit = refl
kinds_sym (Vote m) (PlacedAudit q) = refl
kinds_sym (Vote m) Cancellation = refl
kinds_sym Audit (Vote n) = refl
kinds_sym Audit Audit = refl
kinds_sym Audit (PlacedAudit q) = refl
kinds_sym Audit Cancellation = refl
kinds_sym (PlacedAudit p) (Vote n) = refl
kinds_sym (PlacedAudit p) Audit = refl
kinds_sym (PlacedAudit p) (PlacedAudit q) = ap not (eqb_sym p q)
kinds_sym (PlacedAudit p) Cancellation = refl
kinds_sym Cancellation (Vote n) = refl
kinds_sym Cancellation Audit = refl
kinds_sym Cancellation (PlacedAudit q) = refl
kinds_sym Cancellation Cancellation = refl

readings_sym : (x y : Option Item) → readings_clash x y ≡ readings_clash y x
readings_sym None None = refl
readings_sym None (Some b) = refl
readings_sym (Some a) None = refl
readings_sym (Some a) (Some b) = rw (eqb_sym a.ballot b.ballot, kinds_sym a.kind b.kind)

-- by their texts, whichever audits are items

module _ (audits : Audits) where
  pub clash_sym : (a b : List ℕ) → clash audits a b ≡ clash audits b a
  unfolding clash
  clash_sym a b = rw (same_sym a b, readings_sym (read_item audits a) (read_item audits b))

  pub clash_self : (a : List ℕ) → clash audits a a ≡ false
  unfolding clash
  clash_self a = rw (same_self a)

-- by their numbers

-- items of two ballots do not clash
pub clash-other : (s : List ℕ) (i j : ℕ) {x y : ℕ} → x ≡ ballot_at s i → y ≡ ballot_at s j → (y ≡ x → ⊥) → false ≡ clash_in s i j
unfolding clash_in clash ballot_at
clash-other s i j x-is y-is other =
    rw (go (read i) (read j) refl refl) (sym (and_false (not (same_bytes (item_text s i) (item_text s j)))))
  where
    read : ℕ → Option Item
    read k = read_item (audits_of s) (item_text s k)

    go : (v w : Option Item) → read i ≡ v → read j ≡ w → readings_clash v w ≡ false
    go None w p q = refl
    go (Some a) None p q = refl
    go (Some a) (Some b) p q =
        let own = x-is ∙ (good_read (audits_of s) (item_text s i) a p).says.ballot in
        let its = y-is ∙ (good_read (audits_of s) (item_text s j) b q).says.ballot in
        rw (ne_eqb a.ballot b.ballot (λ e. other (its ∙ sym e ∙ sym own)))

pub clash_in_sym : (s : List ℕ) (i j : ℕ) → clash_in s i j ≡ clash_in s j i
unfolding clash_in
clash_in_sym s i j = clash_sym (audits_of s) (item_text s i) (item_text s j)

pub clash_in_self : (s : List ℕ) (i : ℕ) → clash_in s i i ≡ false
unfolding clash_in
clash_in_self s i = clash_self (audits_of s) (item_text s i)
