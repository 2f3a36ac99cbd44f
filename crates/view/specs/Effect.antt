-- What a step that is not refused does to the contents: facts are added, numbers stored, entries appended; a clear
-- removes.
-- It is the effect of `rule`, with heard hashes by their entry numbers (proofs/Meets).
use Rattle.std.specs.Prelude.{◌+◌}
use Rattle.rules.specs.declared.Entry.TheVariants.{Hash, Backing}
use Rattle.rules.specs.declared.Step.{Step}
use Rattle.rules.specs.declared.Step.TheVariants.{Post, Hand, Sign, Take, Share, Receipt, Close, Fetch, SendHash, Hear, Back, Publish, FalseSignature, FalseShare, FalseHash, FalseBacking, Down, Up, ClearHashes}
use Rattle.rules.specs.Table.{Table}
use Rattle.rules.specs.Bag.{board_named}
use Rattle.rules.specs.Rules.{board_by}
use Rattle.state.specs.declared.Fact.TheVariants.{Posted, Signed, Shared, Receipted, Held, Known, Heard}
use Rattle.state.specs.declared.Number.TheVariants.{CurrentOf, ToBackOf, DownOf}
use Rattle.state.specs.Contents.{Contents, insert, store, enter_on}
use Rattle.state.specs.Sets.{fetched}
use Rattle.state.specs.Cleared.{cleared}
use Rattle.view.specs.View.{state_of}

unfoldable pub effect_on : Table → Contents → Step → Contents
effect_on T c (Post x) = insert (Posted x) c
effect_on T c (Hand j x) = insert (Held j (c.number (CurrentOf j)) x) c
effect_on T c (Sign j x) =
    let p = c.number (CurrentOf j) in
    insert (Known j p x j) (insert (Signed j p x) c)
effect_on T c (Take j k p x) = insert (Known j p x k) c
effect_on T c (Share j x) = insert (Shared j (c.number (CurrentOf j)) x) c
effect_on T c (Receipt p x) = insert (Receipted p x) c
effect_on T c (Close j) = store (CurrentOf j) (c.number (CurrentOf j) + 1) c
effect_on T c (Fetch j k p) = fetched j k p c
effect_on T c (SendHash j p) = enter_on (Hash j p (board_by T (state_of c) j p)) c
effect_on T c (Hear j e) = insert (Heard j e) c
effect_on T c (Back j) =
    let q = c.number (ToBackOf j) in
    store (ToBackOf j) (q + 1) (enter_on (Backing j q (board_by T (state_of c) j q)) c)
effect_on T c (Publish e) = enter_on (board_named c.bag e) c
effect_on T c (FalseSignature j p x) = insert (Signed j p x) c
effect_on T c (FalseShare j p x) = insert (Shared j p x) c
effect_on T c (FalseHash j p B) = enter_on (Hash j p B) c
effect_on T c (FalseBacking j p B) = enter_on (Backing j p B) c
effect_on T c (Down j) = store (DownOf j) 1 c
effect_on T c (Up j) = store (DownOf j) 0 c
effect_on T c (ClearHashes p) = cleared p c
