-- What a close needs of what stays, whatever steps come, from any state: databases, counters and backings; and what an
-- honest peer heard of a period, until it has backed it. Hashes and entry numbers are not spoken of.
use Prim.Native.Nat.{ℕ, ◌≤◌}
use mathlib.Core.Bool.{true}
use mathlib.Core.Path.{◌≡◌, refl}
use Rattle.rules.specs.declared.Entry.TheVariants.{Backing}
use Rattle.rules.specs.Table.{Table}
use Rattle.rules.specs.Bag.{is_in}
use Rattle.rules.specs.State.{State}
use Rattle.rules.specs.Valid.{Peer}
use Rattle.rules.proofs.Grow.{Grows}

pub record Keeps (T : Table) (s t : State) : Type 0 where
  pub db : (j p x k : ℕ) → s.db j p x k ≡ true → t.db j p x k ≡ true
  pub current : (j : ℕ) → s.current j ≤ t.current j
  pub to_back : (j : ℕ) → s.to_back j ≤ t.to_back j
  pub backings : (k p B : ℕ) → is_in (Backing k p B) s.bag ≡ true → is_in (Backing k p B) t.bag ≡ true
  pub heard : (j k p B : ℕ) → Peer T j → T.honest j ≡ true → t.to_back j ≤ p → s.heard j k p B ≡ true
      → t.heard j k p B ≡ true

pub of_growth : {T : Table} {s t : State} → Grows T s t → Keeps T s t
of_growth g = record {
  db = g.db;
  current = g.current;
  to_back = g.to_back;
  backings = λ k p B. g.bag (Backing k p B) refl;
  heard = λ j k p B peer honest. g.heard j k p B honest peer;
}
