-- What P3 asks is needed: after period 0 of the two peers is closed, calls that lack one part of it, and what comes of
-- them.
use Rattle.std.specs.Prelude.{ℕ, List, [], ◌∷◌, ◌++◌, ◌≡◌}
use Rattle.rules.specs.declared.Step.TheVariants.{Fetch, SendHash, Hear, Back, Publish, Down}
use Rattle.form.specs.Written.{written}
use Rattle.liveness.specs.Places.{Behaviour}
use Rattle.closes.specs.Runs.{earlier2}

-- a backing before the last fetch (backed-too-early)
abbrev pub early_backing : List (List ℕ)
early_backing =
    written (SendHash 1 0)  -- of no items: entry 0
    ∷ written (SendHash 2 0)  -- of no items: entry 1
    ∷ written (Hear 1 0)
    ∷ written (Hear 1 1)
    ∷ written (Back 1)  -- no items: entry 2
    ∷ written (Fetch 1 2 0)
    ∷ written (Fetch 2 1 0)
    ∷ written (SendHash 1 0)  -- of item 0: entry 3
    ∷ written (SendHash 2 0)  -- of item 0: entry 4
    ∷ written (Hear 2 3)
    ∷ written (Hear 2 4)
    ∷ written (Back 2)  -- item 0: entry 5
    ∷ []

-- each hears the other's hash, and not its own
abbrev pub others_only : List (List ℕ)
others_only =
    written (Fetch 1 2 0)
    ∷ written (Fetch 2 1 0)
    ∷ written (SendHash 1 0)
    ∷ written (SendHash 2 0)
    ∷ written (Hear 1 1)
    ∷ written (Hear 2 0)
    ∷ []

-- peer 1 sends its hash before its fetch
abbrev pub early_hash : List (List ℕ)
early_hash =
    written (SendHash 1 0)  -- of no items: entry 0
    ∷ written (Fetch 1 2 0)
    ∷ written (Fetch 2 1 0)
    ∷ written (SendHash 2 0)  -- of item 0: entry 1
    ∷ written (Hear 1 0)
    ∷ written (Hear 1 1)
    ∷ written (Hear 2 0)
    ∷ written (Hear 2 1)
    ∷ []

-- peer 2 fetches nothing
abbrev pub one_fetch : List (List ℕ)
one_fetch =
    written (Fetch 1 2 0)
    ∷ written (SendHash 1 0)
    ∷ written (SendHash 2 0)
    ∷ written (Hear 1 0)
    ∷ written (Hear 1 1)
    ∷ written (Hear 2 0)
    ∷ written (Hear 2 1)
    ∷ []

-- peer 1 goes down before it backs
abbrev pub one_down : List (List ℕ)
one_down =
    written (Fetch 1 2 0)
    ∷ written (Fetch 2 1 0)
    ∷ written (SendHash 1 0)
    ∷ written (SendHash 2 0)
    ∷ written (Hear 1 0)
    ∷ written (Hear 1 1)
    ∷ written (Hear 2 0)
    ∷ written (Hear 2 1)
    ∷ written (Down 1)
    ∷ written (Back 1)
    ∷ written (Back 2)  -- entry 2
    ∷ []

pub record Needed (E : Behaviour) : Type 0 where
  -- each of two boards has one backer, and neither can be published
  pub early_backing_lem : (E.answers (earlier2 ++ early_backing) (written (Publish 2)) ≡ 12)
      × (E.answers (earlier2 ++ early_backing) (written (Publish 5)) ≡ 12)
  -- no peer can back
  pub others_only_lem : (E.answers (earlier2 ++ others_only) (written (Back 1)) ≡ 12)
      × (E.answers (earlier2 ++ others_only) (written (Back 2)) ≡ 12)
  pub early_hash_lem : (E.answers (earlier2 ++ early_hash) (written (Back 1)) ≡ 12)
      × (E.answers (earlier2 ++ early_hash) (written (Back 2)) ≡ 12)
  pub one_fetch_lem : (E.answers (earlier2 ++ one_fetch) (written (Back 1)) ≡ 12)
      × (E.answers (earlier2 ++ one_fetch) (written (Back 2)) ≡ 12)
  -- the one backing can not be published
  pub one_down_lem : E.answers (earlier2 ++ one_down) (written (Publish 2)) ≡ 12
