-- The closes in states that were lent, computed by the rules from what these hold; and that the states pass row 14.
use Prim.Native.Nat.{ℕ, ◌+◌, ◌<◌, ◌≤◌}
use native.Mathlib.Omega.{arith}
use mathlib.Core.Bool.{Bool, true, false, cond, ◌&&◌, not}
use mathlib.Core.List.{List, [], ◌∷◌}
use mathlib.Core.Path.{◌≡◌, refl, sym, subst}
use mathlib.Core.Logic.{⊎_elim}
use lib.Dec.{eqb}
use borrow.Author.Tests.{eqb-true}
use Rattle.base.specs.Below.{any, every}
use Rattle.base.specs.Bits.{bit, member, pack}
use Rattle.base.specs.Bytes.{number_at, part, same_bytes, between}
use Rattle.base.specs.Refusals.{first}
use Rattle.base.specs.Sets.{add1, add2, add3, add4, set_at}
use Rattle.base.specs.Weight.{weight}
use Rattle.base.proofs.Bytes.{between_true}
use Rattle.base.proofs.Truth.{false_true, and_l, and_r, or_cases}
use Rattle.header.specs.Header.{header_size, field_of, weight_in, peers_with}
use Rattle.header.specs.Quorum.{weight_of}
use Rattle.ballot.specs.Item.{read_kind, read_item}
use Rattle.ballot.specs.Table.{item_below}
use Rattle.clash.specs.Clash.{clash, clash_in}
use Rattle.rules.specs.declared.Entry.{Entry}
use Rattle.rules.specs.declared.Entry.TheVariants.{Hash, Backing, Board}
use Rattle.rules.specs.Table.{Table, clashing}
use Rattle.rules.specs.Bag.{same_entry, is_in, enter, is_full, boards_in, is_hash, entry_at}
use Rattle.rules.specs.Form.{all_zero, formed, select, ops, later_ops, read}
use Rattle.rules.specs.Rules.{board_from, add_rows, rule, answer, next, reply, leave}
use Rattle.rules.specs.Run.{store_from, by_rules}
use Rattle.rules.specs.Valid.{different, InTable, CountersIn}
use Rattle.rules.proofs.Bag.{eq_of_same}
use Rattle.rules.proofs.Follows.{rules_follow}
use Rattle.state.specs.Contents.{Contents}
use Rattle.state.specs.Encode.{encode}
use Rattle.state.specs.declared.Fact.TheVariants.{Heard}
use Rattle.state.specs.declared.Number.TheVariants.{CurrentOf, ToBackOf}
use Rattle.view.specs.View.{told, state_of}
use Rattle.view.specs.Good.{Good}
use Rattle.view.proofs.Heard.{told_at, told_in}
use Rattle.engine.specs.Engine.{rules_table}
use Rattle.liveness.specs.Union.{union_of}
use Rattle.liveness.specs.Places.{Behaviour, behaviour_from}
use Rattle.liveness.specs.Lent.{NoTakes}
use Rattle.liveness.specs.InTurn.{CloseInTurn}
use Rattle.liveness.proofs.Places.{Obeys, obeys_from}
use Rattle.guarantee.specs.Lent.{from_state}
use Rattle.guarantee.proofs.Lent.{can_be_lent, from_lent}
use Rattle.closes.specs.Plan.{said_in, every_place, Planned, InTurnPlanned}
use Rattle.closes.specs.Runs.{table2}
use Rattle.closes.specs.Lent.{closed_both, unknown2, takes_between, plan_takes, strays2, in_turn_lent, plan_lent, TakesSpoil, StraysStay, LentWorked}
use Rattle.closes.proofs.Plan.{is_in_turn, no_takes}
use Rattle.closes.proofs.Worked.{honest}

abbrev T2 : Table
T2 = rules_table table2

-- both are valid

open_most : (b : Bool) → cond b 1 0 ≤ 2
open_most true = omega arith
open_most false = omega arith

open_peer : (j : ℕ) (b : Bool) → between 1 j 2 ≡ b → 0 < cond b 1 0 → (1 ≤ j) × (j ≤ 2)
open_peer j true e l = between_true 1 j 2 e
open_peer j false e l = absurd (omega arith)

-- the counters of both
counters_in : CountersIn T2 (λ j. closed_both (CurrentOf j)) (λ j. closed_both (ToBackOf j))
unfolding header_size field_of
counters_in = record {
  opens = λ j. open_most (between 1 j 2);
  behind = λ j. omega arith;
  peers = λ j l. open_peer j (between 1 j 2) refl l;
}

unknown_good : Good T2 unknown2
unfolding header_size field_of told number_at different is_in
unknown_good = record {
  valid = record {
    sets = record {
      posts = λ x e. omega (arith, eqb-true x 0 e);
      signs = λ k p x e.
          let rest = and_r (between 1 k 2) (eqb p 0 && eqb x 0) e in (
            between_true 1 k 2 (and_l _ (eqb p 0 && eqb x 0) e),
            (omega (arith, eqb-true p 0 (and_l _ (eqb x 0) rest)), omega (arith, eqb-true x 0 (and_r (eqb p 0) _ rest))),
          );
      shares = λ k p x e. false_true e;
      receipts = λ p x e. false_true e;
      holds = λ j p x e. false_true e;
      knows = λ j p x k e. false_true e;
    };
    counters = counters_in;
    down = λ j e. false_true e;
    bag = record { size = omega arith; entries = λ e i. false_true i; apart = refl };
    heard = λ j k p B e. false_true e;
  };
  sound = record { hears = λ j e q. false_true q; flags = λ j. omega arith };
}

abbrev four : List Entry
four = Backing 1 0 2 ∷ Backing 2 0 2 ∷ Board 0 2 ∷ Hash 2 0 3 ∷ []

-- each of the four entries is within the table's ranges
four_in : (e : Entry) → is_in e four ≡ true → InTable T2 e
unfolding header_size field_of number_at is_in
four_in e i =
    ⊎_elim (at (Backing 1 0 2) ((omega arith, omega arith), (omega arith, omega arith)))
    (λ i. ⊎_elim (at (Backing 2 0 2) ((omega arith, omega arith), (omega arith, omega arith)))
    (λ i. ⊎_elim (at (Board 0 2) (omega arith, omega arith))
    (λ i. ⊎_elim (at (Hash 2 0 3) ((omega arith, omega arith), (omega arith, omega arith))) (λ i. false_true i)
    (or_cases _ _ i)) (or_cases _ _ i)) (or_cases _ _ i)) (or_cases _ _ i)
  where
    at : (a : Entry) → InTable T2 a → same_entry e a ≡ true → InTable T2 e
    at a h u = subst (InTable T2) (sym (eq_of_same e a u)) h

strays_good : Good T2 strays2
unfolding header_size field_of number_at different is_in same_entry
strays_good = record {
  valid = record {
    sets = record {
      posts = λ x e. omega (arith, eqb-true x 0 e);
      signs = λ k p x e. false_true e;
      shares = λ k p x e. false_true e;
      receipts = λ p x e. false_true e;
      holds = λ j p x e. false_true e;
      knows = λ j p x k e.
          let peer = between_true 1 j 2 (and_l _ (eqb p 0 && (eqb x 0 && eqb k j)) e) in
          let rest = and_r (between 1 j 2) (eqb p 0 && (eqb x 0 && eqb k j)) e in
          let last = and_r (eqb p 0) (eqb x 0 && eqb k j) rest in
          let is-j = eqb-true k j (and_r (eqb x 0) (eqb k j) last) in (
            (peer, (omega (arith, eqb-true p 0 (and_l _ (eqb x 0 && eqb k j) rest)), omega (arith, eqb-true x 0 (and_l _ (eqb k j) last)))),
            (omega (arith, peer.0, is-j), omega (arith, peer.1, is-j)),
          );
    };
    counters = counters_in;
    down = λ j e. false_true e;
    bag = record { size = omega arith; entries = four_in; apart = refl };
    heard = λ j k p B e.
        let at = told_at (λ e. strays2.has (Heard j e)) 0 four k p B e in
        let is-1 = eqb-true j 1 (and_l _ (eqb (0 + at.0) 3) at.2) in
        ((omega arith, omega arith), told_in (λ e. strays2.has (Heard j e)) 0 four k p B e);
  };
  sound = record {
    hears = λ j e q. subst (λ (a : ℕ). is_hash (entry_at four a) ≡ true) (sym (eqb-true e 3 (and_r (eqb j 1) _ q))) refl;
    flags = λ j. omega arith;
  };
}

-- by the rules, from what they hold

abbrev R : Contents → Behaviour
R c = behaviour_from (by_rules T2) (state_of c)

record Computed : Type 0 where
  takes_planned : Planned T2 0 plan_takes ((R unknown2).held []) takes_between
  takes_in_turn : InTurnPlanned T2 0 plan_takes ((R unknown2).held []) takes_between
  takes_spoil : TakesSpoil (R unknown2)
  strays_planned : Planned T2 0 plan_lent ((R strays2).held []) in_turn_lent
  strays_in_turn : InTurnPlanned T2 0 plan_lent ((R strays2).held []) in_turn_lent
  strays_untaken : every_place T2 (λ i s c. not (eqb (said_in c).op 4)) 0 ((R strays2).held []) in_turn_lent ≡ true
  strays_stay : StraysStay (R strays2)

computed : Computed
unfolding header_size field_of weight_in peers_with weight_of first any every bit member pack number_at part same_bytes read_item read_kind
    item_below clash_in clash add1 add2 add3 add4 set_at weight clashing same_entry is_in enter is_full boards_in all_zero formed select ops
    later_ops read board_from add_rows rule answer next reply leave store_from union_of every_place told
computed = record {
  takes_planned = search;
  takes_in_turn = search;
  takes_spoil = search;
  strays_planned = search;
  strays_in_turn = search;
  strays_untaken = refl;
  strays_stay = search;
}

module _ (c : Contents) (G : Good T2 c) where
  obeyed : Obeys T2 (R c)
  obeyed = obeys_from (rules_follow T2) (state_of c) G.valid

  on_bytes_lem : (P : Behaviour → Type 0) → P (R c) → P (from_state table2 (encode c))
  on_bytes_lem P = subst P (sym (from_lent table2 honest.two.taken c G))

pub lent_worked : LentWorked
lent_worked = record {
  unknown_state = can_be_lent table2 honest.two.taken unknown2 unknown_good;
  unknown_close = on_bytes_lem unknown2 unknown_good (λ E. CloseInTurn T2 E [] takes_between 0)
      (is_in_turn (obeyed unknown2 unknown_good) 0 plan_takes [] takes_between computed.takes_planned computed.takes_in_turn);
  unknown_spoilt = on_bytes_lem unknown2 unknown_good TakesSpoil computed.takes_spoil;
  strays_state = can_be_lent table2 honest.two.taken strays2 strays_good;
  strays_close = on_bytes_lem strays2 strays_good (λ E. CloseInTurn T2 E [] in_turn_lent 0)
      (is_in_turn (obeyed strays2 strays_good) 0 plan_lent [] in_turn_lent computed.strays_planned computed.strays_in_turn);
  strays_untaken = on_bytes_lem strays2 strays_good (λ E. NoTakes T2 E [] in_turn_lent 0)
      (no_takes (obeyed strays2 strays_good) [] in_turn_lent 0 computed.strays_untaken);
  strays_stay = on_bytes_lem strays2 strays_good StraysStay computed.strays_stay;
}
