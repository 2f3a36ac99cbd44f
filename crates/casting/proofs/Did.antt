-- What the two changes of a sign have made of the contents is its effect.
use Prim.Native.Nat.{ℕ}
use mathlib.Core.List.{List}
use mathlib.Core.Path.{◌≡◌, ap, ◌∙◌}
use Rattle.rules.specs.declared.Step.TheVariants.{Sign}
use Rattle.rules.specs.Table.{Table}
use Rattle.state.specs.declared.Fact.{Fact}
use Rattle.state.specs.declared.Fact.TheVariants.{Signed, Known}
use Rattle.state.specs.declared.Number.TheVariants.{CurrentOf}
use Rattle.state.specs.Contents.{Contents, contents, Holds, insert}
use Rattle.view.specs.Effect.{effect_on}

-- one change after another
again : (t u : List ℕ) (f : Fact) (c : Contents) → Holds t c → Holds u (insert f (contents t)) → Holds u (insert f c)
again t u f c h k = record { canon = k.canon; says = k.says ∙ ap (insert f) h.says }

pub did_sign : (T : Table) (s t u : List ℕ) (j p x : ℕ) → p ≡ (contents s).number (CurrentOf j)
    → Holds u (insert (Signed j p x) (contents s)) → Holds t (insert (Known j p x j) (contents u))
    → Holds t (effect_on T (contents s) (Sign j x))
unfolding effect_on
did_sign T s t u j p x e h k = rw e at (again u t (Known j p x j) (insert (Signed j p x) (contents s)) h k)
