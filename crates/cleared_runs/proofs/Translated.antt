-- A call with its entry number translated reads as the step with its entry number translated.
use Prim.Native.Nat.{ℕ, zero, suc, ◌+◌, ◌<◌}
use native.Mathlib.Omega.{arith}
use mathlib.Core.Bool.{Bool, true, false, ◌&&◌, not}
use mathlib.Core.List.{List}
use mathlib.Core.Path.{◌≡◌, refl, sym, ap, ◌∙◌}
use mathlib.Core.Logic.{◌⊎◌, inl, inr}
use lib.Dec.{eqb}
use lib.ListN.{length, set, length-set}
use lib.Seq.{get_or-set_same, get_or-set_other}
use borrow.Author.Tests.{eqb-true}
use Rattle.base.specs.Bytes.{byte_at, number_at}
use Rattle.base.proofs.Truth.{true_false, either, is_false, and_l, and_r}
use Rattle.rules.specs.declared.Entry.{Entry}
use Rattle.rules.specs.declared.Step.{Step}
use Rattle.rules.specs.declared.Step.TheVariants.{Post, Hand, Sign, Take, Share, Receipt, Close, Fetch, SendHash, Hear, Back, Publish, FalseSignature, FalseShare, FalseHash, FalseBacking, Down, Up, ClearHashes}
use Rattle.rules.specs.Form.{Call}
use Rattle.std.specs.Prelude.{Some, None}
use Rattle.rules.specs.Bag.{is_in, entry_at}
use Rattle.rules.specs.Form.{all_zero, formed, select, later_ops, ops, read}
use Rattle.rules.specs.Fields.{fields}
use Rattle.rules.proofs.Each.{each}
use Rattle.gains.specs.Gain.{is_op}
use Rattle.growth.proofs.Said.{op_of_lem, item_said}
use Rattle.cleared_runs.specs.Cleared.{is_clear, renumber, translated, hears_gone}

-- numbers of the same bytes
number_ext : (a b : List ℕ) (start size : ℕ) → ((i : ℕ) → byte_at a (start + i) ≡ byte_at b (start + i))
    → number_at a start size ≡ number_at b start size
unfolding number_at
number_ext a b start zero f = refl
number_ext a b start (suc size) f = rw (number_ext a b start size f, f size)

-- hear and publish

module _ (c : List ℕ) (op : ℕ) (is : is_op op c ≡ true) where
  whole : eqb (length c) 13 ≡ true
  unfolding is_op
  whole = and_l (eqb (length c) 13) _ is

  first : byte_at c 0 ≡ op
  unfolding is_op
  first = eqb-true (byte_at c 0) op (and_r (eqb (length c) 13) _ is)

  pub long : 4 < length c
  long = omega (arith, eqb-true (length c) 13 whole)

pub read_hear : (c : List ℕ) → is_op 10 c ≡ true
    → read c ≡ formed (all_zero (byte_at c 2) (byte_at c 3) 0 (number_at c 5 8)) (Hear (byte_at c 1) (byte_at c 4))
unfolding read select ops later_ops
read_hear c is = rw (whole c 10 is, first c 10 is)

pub read_publish : (c : List ℕ) → is_op 12 c ≡ true
    → read c ≡ formed (all_zero (byte_at c 1) (byte_at c 2) (byte_at c 3) (number_at c 5 8)) (Publish (byte_at c 4))
unfolding read select ops later_ops
read_publish c is = rw (whole c 12 is, first c 12 is)

module _ (c : List ℕ) (e : ℕ) where
  -- the other bytes stay
  other_byte : (k : ℕ) → (k ≡ 4 → ⊥) → byte_at (set c 4 e) k ≡ byte_at c k
  other_byte k d = get_or-set_other c 4 k e 0 d

  pub set_op : (op : ℕ) → is_op op (set c 4 e) ≡ is_op op c
  unfolding is_op
  set_op op = rw (length-set c 4 e, other_byte 0 (λ q. omega (arith, q)))

  set_number : number_at (set c 4 e) 5 8 ≡ number_at c 5 8
  set_number = number_ext (set c 4 e) c 5 8 (λ i. other_byte (5 + i) (λ q. omega (arith, q)))

  pub set_hear : is_op 10 c ≡ true → read (set c 4 e) ≡ formed (all_zero (byte_at c 2) (byte_at c 3) 0 (number_at c 5 8)) (Hear (byte_at c 1) e)
  set_hear is = read_hear (set c 4 e) (set_op 10 ∙ is)
      ∙ rw (
        set_number,
        get_or-set_same c 4 e 0 (long c 10 is),
        other_byte 1 (λ q. omega (arith, q)),
        other_byte 2 (λ q. omega (arith, q)),
        other_byte 3 (λ q. omega (arith, q)),
      )

  pub set_publish : is_op 12 c ≡ true
      → read (set c 4 e) ≡ formed (all_zero (byte_at c 1) (byte_at c 2) (byte_at c 3) (number_at c 5 8)) (Publish e)
  set_publish is = read_publish (set c 4 e) (set_op 12 ∙ is)
      ∙ rw (
        set_number,
        get_or-set_same c 4 e 0 (long c 12 is),
        other_byte 1 (λ q. omega (arith, q)),
        other_byte 2 (λ q. omega (arith, q)),
        other_byte 3 (λ q. omega (arith, q)),
      )

pub not_both : (c : List ℕ) → is_op 12 c ≡ true → is_op 10 c ≡ false
not_both c is = is_false _ (λ e. absurd (omega (arith, first c 10 e, first c 12 is)))

module _ (from to : List Entry) where
  -- the step with its entry number translated
  unfoldable pub renumbered : Step → Step
  renumbered (Hear j e) = Hear j (renumber from to e)
  renumbered (Publish e) = Publish (renumber from to e)
  renumbered (Post x) = Post x
  renumbered (Hand j x) = Hand j x
  renumbered (Sign j x) = Sign j x
  renumbered (Take j k p x) = Take j k p x
  renumbered (Share j x) = Share j x
  renumbered (Receipt p x) = Receipt p x
  renumbered (Close j) = Close j
  renumbered (Fetch j k p) = Fetch j k p
  renumbered (SendHash j p) = SendHash j p
  renumbered (Back j) = Back j
  renumbered (FalseSignature j p x) = FalseSignature j p x
  renumbered (FalseShare j p x) = FalseShare j p x
  renumbered (FalseHash j p B) = FalseHash j p B
  renumbered (FalseBacking j p B) = FalseBacking j p B
  renumbered (Down j) = Down j
  renumbered (Up j) = Up j
  renumbered (ClearHashes p) = ClearHashes p

  -- a clear stays one, and nothing becomes one
  pub clear_same : (st : Step) → is_clear (renumbered st) ≡ is_clear st
  unfolding renumbered
  clear_same = each (λ st. is_clear (renumbered st) ≡ is_clear st) (search)

  -- and its period stays
  pub period_same : (st : Step) → (fields (renumbered st)).period ≡ (fields st).period
  unfolding renumbered
  period_same = each (λ st. (fields (renumbered st)).period ≡ (fields st).period) (search)

  abbrev pub hearing : Step → Bool
  hearing st = eqb (fields st).op 10 && not (is_in (entry_at from (fields st).item) to)

  unfoldable pub renumbered_call : Call → Call
  renumbered_call (Some st) = Some (renumbered st)
  renumbered_call None = None

  -- whether a call hears an entry that is gone is whether its step does
  pub gone_said : (c : List ℕ) (st : Step) → read c ≡ Some st → hears_gone from to c ≡ hearing st
  unfolding hears_gone
  gone_said c st said = rw (op_of_lem c st said 10, item_said c st said)

  of-formed : (ok : Bool) (st : Step) → renumbered_call (formed ok st) ≡ formed ok (renumbered st)
  unfolding renumbered_call formed
  of-formed true st = refl
  of-formed false st = refl

  abbrev Reads : List ℕ → Type 0
  Reads c = read (translated from to c) ≡ renumbered_call (read c)

  hear_reads : (c : List ℕ) → is_op 10 c ≡ true → Reads c
  unfolding translated renumbered
  hear_reads c is = rw is (set_hear c (renumber from to (byte_at c 4)) is ∙ sym
      (ap renumbered_call (read_hear c is) ∙ of-formed _ (Hear (byte_at c 1) (byte_at c 4))))

  publish_reads : (c : List ℕ) → is_op 12 c ≡ true → Reads c
  unfolding translated renumbered
  publish_reads c is = rw (not_both c is, is) (set_publish c (renumber from to (byte_at c 4)) is ∙ sym
      (ap renumbered_call (read_publish c is) ∙ of-formed _ (Publish (byte_at c 4))))

  -- any other call stays as it is

  abbrev Plain : Step → Type 0
  Plain st = eqb (fields st).op 10 ≡ false → eqb (fields st).op 12 ≡ false → renumbered st ≡ st

  plain_hear : (j e : ℕ) → Plain (Hear j e)
  plain_hear j e not10 not12 = true_false not10

  plain_publish : (e : ℕ) → Plain (Publish e)
  plain_publish e not10 not12 = true_false not12

  plain : (st : Step) → Plain st
  unfolding renumbered
  plain = each Plain (search (plain_hear, plain_publish))

  plain_reads : (c : List ℕ) → is_op 10 c ≡ false → is_op 12 c ≡ false → Reads c
  unfolding translated renumbered_call
  plain_reads c not10 not12 = rw (not10, not12) (go (read c) refl)
    where
      go : (x : Call) → read c ≡ x → x ≡ renumbered_call x
      go (Some st) said = ap Some (sym (plain st (sym (op_of_lem c st said 10) ∙ not10) (sym (op_of_lem c st said 12) ∙ not12)))
      go None said = refl

  pub reads : (c : List ℕ) → Reads c
  reads c = go (either (is_op 10 c)) (either (is_op 12 c))
    where
      go : (is_op 10 c ≡ true) ⊎ (is_op 10 c ≡ false) → (is_op 12 c ≡ true) ⊎ (is_op 12 c ≡ false) → Reads c
      go (inl is) other = hear_reads c is
      go (inr not10) (inl is) = publish_reads c is
      go (inr not10) (inr not12) = plain_reads c not10 not12
