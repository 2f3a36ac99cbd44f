-- Laws of readings: a text reads as an item exactly if it is the item's text, and such items are taken.
use Prim.Native.Nat.{ℕ, ◌+◌, ◌-◌, ◌≤◌, ◌<◌}
use native.Mathlib.Omega.{arith}
use mathlib.Core.Bool.{Bool, true, false}
use mathlib.Core.List.{List}
use mathlib.Core.Logic.{◌⊎◌, inl, inr}
use Rattle.std.specs.Prelude.{Option, Some, None}
use mathlib.Core.Path.{◌≡◌, refl, sym, subst}
use lib.Dec.{ltb, eqb}
use lib.ListN.{length}
use borrow.Author.Tests.{lt-ltb, le-ltb, ltb-false, eqb-true}
use Rattle.base.specs.Bytes.{between}
use Rattle.base.proofs.Truth.{either, false_true, eqb_self}
use Rattle.base.proofs.Below.{every-at, every_of}
use Rattle.base.proofs.Bytes.{between_true}
use Rattle.pairs.specs.Pairs.{text_of}
use Rattle.ballot.specs.declared.item.Kind.{Kind}
use Rattle.ballot.specs.declared.item.Kind.TheVariants.{Vote, Audit, PlacedAudit, Cancellation}
use Rattle.ballot.specs.declared.item.Audits.{Audits}
use Rattle.ballot.specs.declared.item.Audits.TheVariants.{Bare, Placed, Either}
use Rattle.ballot.specs.declared.item.Item.{Item}
use Rattle.ballot.specs.Item.{kind_number, ballot_of, kind_byte, body_at, place_of, good_if, placed_audit, read_audit, read_kind, read_item, reading_number}
use Rattle.ballot.specs.Item.{is_item, item_at, all_items, body_size, body_ok, takes, ReadAs}

-- the number of bytes after the kind byte
abbrev rest_of : List ℕ → ℕ
rest_of text = length text - body_at

-- by the length, as the machine goes

module _ (audits : Audits) (text : List ℕ) where
  pub text_short : length text < body_at → None ≡ read_item audits text
  unfolding read_item
  text_short l = rw (lt-ltb (length text) body_at l)

  pub text_long : {r : Option Item} → body_at ≤ length text
      → r ≡ read_kind audits (ballot_of text) (kind_byte text) (rest_of text) (place_of text) → r ≡ read_item audits text
  unfolding read_item
  text_long l r-is = rw (le-ltb (length text) body_at l) r-is

-- what is wrong is no item
wrong : {A : Type 0} {i : Item} → None ≡ Some i → A
wrong e = let zero_one : ◌≡◌ {A = ℕ} 0 1 = cc in absurd (omega arith)

-- a text that reads as an item is the item's text, and the item is one of those that are taken

module _ (audits : Audits) (text : List ℕ) (i : Item) where
  of_kind : (kind : Kind) (ok : Bool) → kind_byte text ≡ kind_number kind → takes audits kind ≡ true
      → (ok ≡ true → (length text ≡ body_at + body_size kind) × (body_ok text kind ≡ true))
      → good_if ok (ballot_of text) kind ≡ Some i → ReadAs audits text i
  of_kind kind true k t sized e =
      let read : record { ballot = ballot_of text; kind = kind } ≡ i = cc in
      let own = sized refl in
      subst (ReadAs audits text) read (record { says = record { ballot = refl; kind = k; size = own.0; body = own.1 }; taken = t })
  of_kind kind false k t sized e = wrong e

  module _ (long : body_at ≤ length text) where
    -- nothing stands after the kind byte of an audit without a place, and of a cancellation
    ends : (kind : Kind) → kind_byte text ≡ kind_number kind → body_size kind ≡ 0 → body_ok text kind ≡ true → takes audits kind ≡ true
        → good_if (eqb (rest_of text) 0) (ballot_of text) kind ≡ Some i → ReadAs audits text i
    ends kind k none ok t e = of_kind kind (eqb (rest_of text) 0) k t (λ o. (omega (arith, eqb-true (rest_of text) 0 o, none), ok)) e

    -- one byte does of an audit with its place
    placed : kind_byte text ≡ 2 → ((place : ℕ) → takes audits (PlacedAudit place) ≡ true)
        → placed_audit (ballot_of text) (rest_of text) (place_of text) ≡ Some i → ReadAs audits text i
    placed k t e =
        let place = place_of text in
        of_kind (PlacedAudit place) (eqb (rest_of text) 1) k (t place) (λ o. (omega (arith, eqb-true (rest_of text) 1 o), eqb_self place)) e

audit-read : (audits : Audits) (text : List ℕ) (i : Item) → body_at ≤ length text → kind_byte text ≡ 2
    → read_audit audits (ballot_of text) (rest_of text) (place_of text) ≡ Some i → ReadAs audits text i
audit-read Bare text i long k e = ends Bare text i long Audit k refl refl refl e
audit-read Placed text i long k e = placed Placed text i long k (λ place. refl) e
audit-read Either text i long k e = go (either (eqb (rest_of text) 0))
  where
    go : (eqb (rest_of text) 0 ≡ true) ⊎ (eqb (rest_of text) 0 ≡ false) → ReadAs Either text i
    go (inl none) = ends Either text i long Audit k refl refl refl (rw none (rw none at e))
    go (inr some) = placed Either text i long k (λ place. refl) (rw some at e)

module _ (audits : Audits) (text : List ℕ) (i : Item) where
  kind_read : body_at ≤ length text → read_kind audits (ballot_of text) (kind_byte text) (rest_of text) (place_of text) ≡ Some i
      → ReadAs audits text i
  unfolding read_kind
  kind_read long e = go (either (eqb k 1)) (either (eqb k 2)) (either (eqb k 3))
    where
      k : ℕ
      k = kind_byte text

      go : (eqb k 1 ≡ true) ⊎ (eqb k 1 ≡ false) → (eqb k 2 ≡ true) ⊎ (eqb k 2 ≡ false) → (eqb k 3 ≡ true) ⊎ (eqb k 3 ≡ false)
          → ReadAs audits text i
      go (inl v) a c =
          let rest = rest_of text in
          of_kind audits text i (Vote rest) (between 1 rest 32) (eqb-true k 1 v) refl (λ o. (omega arith, o)) (rw v at e)
      go (inr v) (inl a) c = audit-read audits text i long (eqb-true k 2 a) (rw (v, a) at e)
      go (inr v) (inr a) (inl c) = ends audits text i long Cancellation (eqb-true k 3 c) refl refl refl (rw (v, a, c) at e)
      go (inr v) (inr a) (inr c) = wrong (rw (v, a, c) at e)

  pub good_read : read_item audits text ≡ Some i → ReadAs audits text i
  unfolding read_item
  good_read e = go (either (ltb (length text) body_at))
    where
      go : (ltb (length text) body_at ≡ true) ⊎ (ltb (length text) body_at ≡ false) → ReadAs audits text i
      go (inl l) = wrong (rw l at e)
      go (inr l) = kind_read (ltb-false (length text) body_at l) (rw l at e)

-- and the item's text reads as the item, where it is taken

kind_good : (audits : Audits) (text : List ℕ) (b : ℕ) (kind : Kind) → body_ok text kind ≡ true → takes audits kind ≡ true
    → read_kind audits b (kind_number kind) (body_size kind) (place_of text) ≡ Some (record { ballot = b; kind = kind })
unfolding read_kind
kind_good audits text b (Vote n) ok t = rw ok
kind_good Bare text b Audit ok t = refl
kind_good Placed text b Audit ok t = false_true t
kind_good Either text b Audit ok t = refl
kind_good Bare text b (PlacedAudit place) ok t = false_true t
kind_good Placed text b (PlacedAudit place) ok t = rw (eqb-true (place_of text) place ok)
kind_good Either text b (PlacedAudit place) ok t = rw (eqb-true (place_of text) place ok)
kind_good audits text b Cancellation ok t = refl

pub read_good : (audits : Audits) (text : List ℕ) (i : Item) → ReadAs audits text i → read_item audits text ≡ Some i
read_good audits text i read =
    let says = read.says in
    let rest : rest_of text ≡ body_size i.kind = omega (arith, says.size) in
    let kind = kind_good audits text i.ballot i.kind says.body read.taken in
    sym (text_long audits text (omega (arith, says.size)) (rw (says.ballot, says.kind, rest) (sym kind)))

-- a text that reads as an item, and the item

pub record Read (audits : Audits) (text : List ℕ) : Type 0 where
  pub item : Item
  pub reads : read_item audits text ≡ Some item

pub item-read : (audits : Audits) (text : List ℕ) → is_item audits text ≡ true → Read audits text
unfolding is_item
item-read audits text ok = go (read_item audits text) refl ok
  where
    go : (r : Option Item) → read_item audits text ≡ r → eqb (reading_number r) 0 ≡ true → Read audits text
    go (Some i) e good = record { item = i; reads = e }
    go None e good = absurd (omega (arith, eqb-true 3 0 good))

pub read-item : (audits : Audits) (text : List ℕ) (i : Item) → read_item audits text ≡ Some i → is_item audits text ≡ true
unfolding is_item
read-item audits text i e = rw e

-- whichever audits are taken, it reads as an item where either kind is

all_taken : (kind : Kind) → takes Either kind ≡ true
all_taken (Vote n) = refl
all_taken Audit = refl
all_taken (PlacedAudit place) = refl
all_taken Cancellation = refl

pub either_item : (audits : Audits) (text : List ℕ) → is_item audits text ≡ true → is_item Either text ≡ true
either_item audits text ok =
    let read = item-read audits text ok in
    let i = read.item in
    let says = (good_read audits text i read.reads).says in
    read-item Either text i (read_good Either text i (record { says = says; taken = all_taken i.kind }))

-- it has at most 37 bytes: a vote's ballot number and kind byte, and 32 preferences

body_most : (text : List ℕ) (kind : Kind) → body_ok text kind ≡ true → body_size kind ≤ 32
body_most text (Vote n) ok = (between_true 1 n 32 ok).1
body_most text Audit ok = omega arith
body_most text (PlacedAudit place) ok = omega arith
body_most text Cancellation ok = omega arith

pub item_most : (text : List ℕ) → is_item Either text ≡ true → length text ≤ 37
item_most text ok =
    let read = item-read Either text ok in
    let says = (good_read Either text read.item read.reads).says in
    omega (arith, says.size, body_most text read.item.kind says.body)

-- each of several texts

module _ (audits : Audits) (s : List ℕ) (at m : ℕ) where
  pub each_item : all_items audits s at m ≡ true → (k : ℕ) → k < m → is_item audits (text_of s at k) ≡ true
  unfolding all_items item_at
  each_item ok = every-at (item_at audits s at) m ok

  pub all_read : ((k : ℕ) → k < m → is_item audits (text_of s at k) ≡ true) → all_items audits s at m ≡ true
  unfolding all_items item_at
  all_read good = every_of m (item_at audits s at) good
