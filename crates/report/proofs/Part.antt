-- The lines of the bag: of its entries only boards are shown.
use Prim.Native.Nat.{ℕ}
use mathlib.Core.Path.{◌≡◌, refl, subst}
use lib.ListN.{length}
use Rattle.rules.specs.declared.Entry.{Entry}
use Rattle.rules.specs.declared.Entry.TheVariants.{Hash, Backing, Board}
use Rattle.rules.specs.Bag.{entry_at}
use Rattle.state.specs.Contents.{Contents}
use Rattle.header.specs.declared.Head.{Head}
use Rattle.text.specs.declared.Printer.{Printer}
use Rattle.text.specs.Wrote.{Put, each}
use Rattle.text.proofs.Puts.{none}
use Rattle.report.specs.Lines.{board_line}
use Rattle.report.specs.State.{entry_line, bag_line, board_lines}

-- an entry of the bag is a board, or another
pub board-shown : (h : Head) {u v : Printer} (x : Entry) (p B : ℕ) → x ≡ Board p B → Put u (board_line h.items p B) v → Put u (entry_line h x) v
unfolding entry_line
board-shown h x p B e w = rw e w

pub others_hidden : (h : Head) {u : Printer} (x : Entry) → ((p B : ℕ) → x ≡ Board p B → ⊥) → Put u (entry_line h x) u
unfolding entry_line
others_hidden h (Hash k p B) f = none
others_hidden h (Backing k p B) f = none
others_hidden h (Board p B) f = absurd (f p B refl)

-- entries and their number, as they are read
module _ (h : Head) (c : Contents) {u v : Printer} where
  pub entry_read : (e : ℕ) (x : Entry) → x ≡ entry_at c.bag e → Put u (entry_line h x) v → Put u (bag_line h c e) v
  unfolding bag_line
  entry_read e x r w = subst (λ y. Put u (entry_line h y) v) r w

  pub bag_read : (n : ℕ) → n ≡ length c.bag → Put u (each (bag_line h c) n) v → Put u (board_lines h c) v
  unfolding board_lines
  bag_read n r w = subst (λ k. Put u (each (bag_line h c) k) v) r w
