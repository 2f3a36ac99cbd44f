-- What is shown of each step holds of every step. A law that most steps meet in one way goes by it: `search` finds
-- that way for each of them, and only the others are shown apart. So a new step adds a line here, and none there.
use Prim.Native.Nat.{ℕ}
use Rattle.rules.specs.declared.Step.{Step}
use Rattle.rules.specs.declared.Step.TheVariants.{Post, Hand, Sign, Take, Share, Receipt, Close, Fetch, SendHash, Hear, Back, Publish, FalseSignature, FalseShare, FalseHash, FalseBacking, Down, Up, ClearHashes}

pub record Each (P : Step → Type 0) : Type 0 where
  pub post : (x : ℕ) → P (Post x)
  pub hand : (j x : ℕ) → P (Hand j x)
  pub sign : (j x : ℕ) → P (Sign j x)
  pub take : (j k p x : ℕ) → P (Take j k p x)
  pub share : (j x : ℕ) → P (Share j x)
  pub receipt : (p x : ℕ) → P (Receipt p x)
  pub close : (j : ℕ) → P (Close j)
  pub fetch : (j k p : ℕ) → P (Fetch j k p)
  pub send_hash : (j p : ℕ) → P (SendHash j p)
  pub hear : (j e : ℕ) → P (Hear j e)
  pub back : (j : ℕ) → P (Back j)
  pub publish : (e : ℕ) → P (Publish e)
  pub false_signature : (j p x : ℕ) → P (FalseSignature j p x)
  pub false_share : (j p x : ℕ) → P (FalseShare j p x)
  pub false_hash : (j p B : ℕ) → P (FalseHash j p B)
  pub false_backing : (j p B : ℕ) → P (FalseBacking j p B)
  pub down : (j : ℕ) → P (Down j)
  pub up : (j : ℕ) → P (Up j)
  pub clear_hashes : (p : ℕ) → P (ClearHashes p)

pub each : (P : Step → Type 0) → Each P → (st : Step) → P st
each P e (Post x) = e.post x
each P e (Hand j x) = e.hand j x
each P e (Sign j x) = e.sign j x
each P e (Take j k p x) = e.take j k p x
each P e (Share j x) = e.share j x
each P e (Receipt p x) = e.receipt p x
each P e (Close j) = e.close j
each P e (Fetch j k p) = e.fetch j k p
each P e (SendHash j p) = e.send_hash j p
each P e (Hear j n) = e.hear j n
each P e (Back j) = e.back j
each P e (Publish n) = e.publish n
each P e (FalseSignature j p x) = e.false_signature j p x
each P e (FalseShare j p x) = e.false_share j p x
each P e (FalseHash j p B) = e.false_hash j p B
each P e (FalseBacking j p B) = e.false_backing j p B
each P e (Down j) = e.down j
each P e (Up j) = e.up j
each P e (ClearHashes p) = e.clear_hashes p
