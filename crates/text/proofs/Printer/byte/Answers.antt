-- The byte in its place, or past the end.
use mathlib.Core.Path.{refl}
use Rattle.text.proofs.Writing.{byte_in_lem, byte_out, at_most}
use Rattle.text.proofs.Printer.byte.Goals as goal

pub returns-then-self : goal.returns-then-self
returns-then-self c = record { same = refl; wrote = byte_in_lem _ _ _ }

pub returns-else-self : goal.returns-else-self
returns-else-self c = record {
  same = refl;
  wrote = at_most c.saturating_add-self.ensures (byte_out _ _ _ _ c.if-self.false refl);
}
