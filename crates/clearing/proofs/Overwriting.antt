-- An entry written over another: the bag has it in that place, and all else is as it was. And one after the other.
use Prim.Native.Nat.{ℕ, ◌+◌, ◌<◌, ◌≤◌}
use native.Mathlib.Decide.{ℕ_discrete}
use native.Mathlib.Omega.{arith}
use mathlib.Core.List.{List}
use mathlib.Core.Path.{◌≡◌, refl, sym, ap, subst, fun_ext, ◌∙◌}
use lib.ListN.{length, set, get_or, length-set}
use lib.Seq.{ext_get_or, get_or-set_same, get_or-set_other}
use Rattle.base.specs.Bytes.{byte_at}
use Rattle.base.specs.Tab.{tab}
use Rattle.base.proofs.Tab.{length-tab, get_or-tab}
use Rattle.bits.proofs.Number.{num_ext}
use Rattle.rules.specs.declared.Entry.{Entry}
use Rattle.rules.specs.Bag.{no_entry, entry_at as nth}
use Rattle.state.specs.Layout.{count_at, entry_size, entry_start, count_bytes}
use Rattle.state.specs.Entries.{EntryFits}
use Rattle.state.specs.Contents.{count, entry_at, contents, Settled, Canon, Holds, bag_on}
use Rattle.state.specs.Cleared.{with_bag}
use Rattle.state.proofs.Encode.{bag_length}
use Rattle.state.proofs.Frame as frame
use Rattle.bag.specs.Bag.{entered}
use Rattle.bag.proofs.Added.{length-written, bytes-written, written_out, written_entry, written_settled}
use Rattle.clearing.specs.Moves.{Rising, Moved}

module _ (s : List ℕ) (w : ℕ) (x : Entry) (c : Canon s) (room : w < count s) (h : EntryFits x) where
  t : List ℕ
  t = entered s (entry_start w) x

  inside : entry_start w + entry_size ≤ length s
  inside = omega (arith, c.long, c.counted)

  outside : (i : ℕ) → (entry_start w ≤ i → entry_start w + entry_size ≤ i) → byte_at t i ≡ byte_at s i
  unfolding t
  outside i q = written_out s (entry_start w) x i q

  counted : count t ≡ count s
  counted = num_ext count_bytes t s count_at (λ i p q. outside i (λ z. absurd (omega arith)))

  other : (e : ℕ) → (e ≡ w → ⊥) → (i : ℕ) → entry_start e ≤ i → i < entry_start e + entry_size → byte_at t i ≡ byte_at s i
  other e d i p q = outside i (λ z. past e d i p q z)
    where
      past : (e : ℕ) → (e ≡ w → ⊥) → (i : ℕ) → entry_start e ≤ i → i < entry_start e + entry_size → entry_start w ≤ i
          → entry_start w + entry_size ≤ i
      past e d i p q z = omega (arith, d)

  settled : (e : ℕ) → e < count s → Settled t e
  unfolding t
  settled e l = go (ℕ_discrete e w)
    where
      go : Dec (e ≡ w) → Settled t e
      go (yes q) = rw q (written_settled s w x inside h)
      go (no d) = frame.settled_same t s e (other e d) (c.settled e l)

  canon : Canon t
  unfolding t
  canon = record {
    long = length-written s (entry_start w) x ∙ c.long;
    bytes = bytes-written s (entry_start w) x c.bytes h;
    counted = omega (arith, counted, c.counted);
    settled = λ e l. settled e (omega (arith, counted));
    rest = λ i l. outside i (λ z. omega (arith, counted)) ∙ c.rest i (omega (arith, counted));
  }

  bag : tab (count t) (entry_at t) ≡ set (tab (count s) (entry_at s)) w x
  unfolding t
  bag =
      let n = count s in
      let l = tab n (entry_at s) in
      ap (λ (k : ℕ). tab k (entry_at t)) counted
      ∙ ext_get_or no_entry (tab n (entry_at t)) (set l w x) (length-tab n (entry_at t) ∙ sym (length-set l w x ∙ length-tab n (entry_at s)))
      (λ e m. get_or-tab n (entry_at t) e no_entry (omega (arith, length-tab n (entry_at t))) ∙ at e (omega (arith, length-tab n (entry_at t)))
      (ℕ_discrete e w))
    where
      at : (e : ℕ) → e < count s → Dec (e ≡ w) → entry_at t e ≡ get_or (set (tab (count s) (entry_at s)) w x) e no_entry
      at e m (yes q) = rw q (written_entry s w x inside h ∙ sym (get_or-set_same (tab (count s) (entry_at s)) w x no_entry
          (omega (arith, length-tab (count s) (entry_at s)))))
      at e m (no d) = frame.entry_same t s e (other e d) ∙ sym (get_or-set_other (tab (count s) (entry_at s)) w e x no_entry d
          ∙ get_or-tab (count s) (entry_at s) e no_entry m)

  over_holds : Holds t (with_bag (set (contents s).bag w x) (contents s))
  unfolding contents with_bag
  over_holds = record {
    canon = canon;
    says = λ i. record {
      has = fun_ext (frame.has_same t s (λ i l. outside i (λ z. omega arith))) i;
      number = fun_ext (frame.number_same t s (λ i p q. outside i (λ z. omega arith))) i;
      bag = bag i;
    };
  }

pub over_done : (s t : List ℕ) (w e : ℕ) (x : Entry) → Canon s → w < length (bag_on s) → x ≡ nth (bag_on s) e
    → (t ≡ entered s (entry_start w) x) × EntryFits x → Holds t (with_bag (set (bag_on s) w (nth (bag_on s) e)) (contents s))
unfolding t
over_done s r w e x c l q p =
    subst (λ y. Holds r (with_bag (set (bag_on s) w y) (contents s))) q
    (subst (λ u. Holds u (with_bag (set (bag_on s) w x) (contents s))) (sym p.0) (over_holds s w x c (omega (arith, bag_length s)) p.1))

-- entries moved one after the other, each to a place that is not behind its own

pub moved_none : (s old : List ℕ) → Canon s → Moved s s old 0
unfolding with_bag
moved_none s old c = record {
  holds = record { canon = c; says = refl };
  long = refl;
  moved = λ e l. absurd (omega arith);
  others = λ e l. refl;
}

module _ (s t u old : List ℕ) (w : ℕ) (M : Moved s t old w) where
  pub moved_more : {v n : ℕ} → v ≡ byte_at old w → Rising n old (length (bag_on s)) → w < n
      → Holds u (with_bag (set (bag_on t) w (nth (bag_on t) v)) (contents t)) → Moved s u old (w + 1)
  unfolding with_bag
  moved_more {v} e up l H = record {
    holds = record { canon = H.canon; says = says };
    long = ap length bag ∙ length-set (bag_on t) w (nth (bag_on t) v) ∙ M.long;
    moved = λ i m. go i m (ℕ_discrete i w);
    others = λ i m. ap (λ b. nth b i) bag ∙ get_or-set_other (bag_on t) w i (nth (bag_on t) v) no_entry (λ z. omega arith) ∙ M.others i
        (omega arith);
  }
    where
      bag : bag_on u ≡ set (bag_on t) w (nth (bag_on t) v)
      bag = ap (λ d. d.bag) H.says

      says : contents u ≡ record { has = (contents s).has; number = (contents s).number; bag = bag_on u }
      says = λ i. record {
        has = (ap (λ d. d.has) H.says ∙ ap (λ d. d.has) M.holds.says) i;
        number = (ap (λ d. d.number) H.says ∙ ap (λ d. d.number) M.holds.says) i;
        bag = bag_on u;
      }

      go : (i : ℕ) → i < w + 1 → Dec (i ≡ w) → nth (bag_on u) i ≡ nth (bag_on s) (byte_at old i)
      go i m (yes z) = rw z
          (ap (λ b. nth b w) bag ∙ get_or-set_same (bag_on t) w (nth (bag_on t) v) no_entry (omega (arith, M.long, up.from w l, up.below w l))
          ∙ ap (nth (bag_on t)) e ∙ M.others (byte_at old w) (up.from w l))
      go i m (no z) = ap (λ b. nth b i) bag ∙ get_or-set_other (bag_on t) w i (nth (bag_on t) v) no_entry z ∙ M.moved i (omega (arith, z))

pub still_long : (s t old : List ℕ) (w : ℕ) → Canon s → Moved s t old w → length t ≡ length s
still_long s t old w c M = M.holds.canon.long ∙ sym c.long

-- what moving the next entry asks

pub move_canon : (s t old : List ℕ) (w : ℕ) → Moved s t old w → Canon t
move_canon s t old w M = M.holds.canon

pub move_to : (s t old : List ℕ) (n w : ℕ) → Moved s t old w → Rising n old (length (bag_on s)) → w < n → w < length (bag_on t)
move_to s t old n w M up l = omega (arith, M.long, up.from w l, up.below w l)

pub move_from : (s t old : List ℕ) (n w v : ℕ) → Moved s t old w → Rising n old (length (bag_on s)) → w < n → v ≡ byte_at old w
    → v < length (bag_on t)
move_from s t old n w v M up l e = omega (arith, M.long, up.below w l)
