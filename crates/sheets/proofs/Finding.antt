-- What the reader finds, by its refusals in their order.
use Prim.Native.Nat.{ℕ, ◌≤◌, ◌<◌}
use mathlib.Core.Bool.{Bool, true, false, not, cond}
use mathlib.Core.List.{List, []}
use mathlib.Core.Path.{◌≡◌, refl, ap}
use lib.Dec.{eqb, leb}
use borrow.Author.Tests.{le-leb, lt-leb}
use Rattle.std.specs.Prelude.{Result, Ok, Err}
use Rattle.base.specs.Bytes.{part}
use Rattle.base.specs.Refusals.{first, judged}
use Rattle.base.specs.declared.refusal.Refusal.{Refusal}
use Rattle.base.specs.declared.refusal.Refusal.TheVariants.{Name, Sheet}
use Rattle.sheets.specs.declared.Part.{Part}
use Rattle.sheets.specs.Sheet.{count_on, text_on, sheet_ok}
use Rattle.sheets.specs.Found.{item_answer, part_at, part_unless, found, handed_out}

module _ (s : List ℕ) (k : ℕ) where
  -- by whether the bytes are a sheet, and whether it has more than k items

  pub no_sheet : sheet_ok s ≡ false → found s k ≡ Err Sheet
  unfolding found judged
  no_sheet bad = rw bad

  pub no_item : sheet_ok s ≡ true → count_on s ≤ k → found s k ≡ Err Name
  unfolding found judged
  no_item ok l = rw (ok, le-leb (count_on s) k l)

  pub part_found : sheet_ok s ≡ true → k < count_on s → found s k ≡ Ok (part_at s k)
  unfolding found judged
  part_found ok l = rw (ok, lt-leb (count_on s) k l)

  -- what is handed out is the part that is found, or nothing

  abbrev Found : Bool → Bool → Result Part Refusal
  Found ok past = part_unless (cond (not ok) (Err Sheet) (cond past (Err Name) (Ok tt))) (part_at s k)

  abbrev Handed : Bool → Bool → List ℕ
  Handed ok past = cond (eqb (cond (not ok) 16 (cond past 6 0)) 0) (text_on s k) []

  pub handed_part : (p : Part) → found s k ≡ Ok p → part s p.offset p.length ≡ handed_out s k
  unfolding found judged handed_out item_answer first
  handed_part p = go (sheet_ok s) (leb (count_on s) k)
    where
      go : (ok past : Bool) → Found ok past ≡ Ok p → part s p.offset p.length ≡ Handed ok past
      go true true e = cc
      go true false e = let its : p ≡ part_at s k = cc in ap (λ (q : Part). part s q.offset q.length) its
      go false past e = cc

  pub handed_none : (w : Refusal) → found s k ≡ Err w → [] ≡ handed_out s k
  unfolding found judged handed_out item_answer first
  handed_none w = go (sheet_ok s) (leb (count_on s) k)
    where
      go : (ok past : Bool) → Found ok past ≡ Err w → [] ≡ Handed ok past
      go true true e = refl
      go true false e = cc
      go false past e = refl
