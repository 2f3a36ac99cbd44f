-- The fields of a step, as document 01 lists them: op, peer, other, period, item (also entry number), board.
use Rattle.std.specs.Prelude.{ℕ}
use Rattle.rules.specs.declared.Fields.{Fields}
use Rattle.rules.specs.declared.Step.{Step}
use Rattle.rules.specs.declared.Step.TheVariants.{Post, Hand, Sign, Take, Share, Receipt, Close, Fetch, SendHash, Hear, Back, Publish, FalseSignature, FalseShare, FalseHash, FalseBacking, Down, Up, ClearHashes}

abbrev pub of : ℕ → ℕ → ℕ → ℕ → ℕ → ℕ → Fields
of op j k p x B = record { op = op; peer = j; other = k; period = p; item = x; board = B }

-- fields not named after an op are 0
abbrev pub fields : Step → Fields
fields (Post x) = of 1 0 0 0 x 0
fields (Hand j x) = of 2 j 0 0 x 0
fields (Sign j x) = of 3 j 0 0 x 0
fields (Take j k p x) = of 4 j k p x 0
fields (Share j x) = of 5 j 0 0 x 0
fields (Receipt p x) = of 6 0 0 p x 0
fields (Close j) = of 7 j 0 0 0 0
fields (Fetch j k p) = of 8 j k p 0 0
fields (SendHash j p) = of 9 j 0 p 0 0
fields (Hear j e) = of 10 j 0 0 e 0
fields (Back j) = of 11 j 0 0 0 0
fields (Publish e) = of 12 0 0 0 e 0
fields (FalseSignature j p x) = of 13 j 0 p x 0
fields (FalseShare j p x) = of 14 j 0 p x 0
fields (FalseHash j p B) = of 15 j 0 p 0 B
fields (FalseBacking j p B) = of 16 j 0 p 0 B
fields (Down j) = of 17 j 0 0 0 0
fields (Up j) = of 18 j 0 0 0 0
fields (ClearHashes p) = of 19 0 0 p 0 0
