-- The words of steps, states, cache answers and mechanisms.
use Rattle.std.specs.Prelude.{ℕ, List, [], codes}
use Rattle.ely_row.specs.declared.mech.Mech.{Mech}
use Rattle.ely_row.specs.declared.mech.Mech.TheVariants as mechs
use Rattle.ely_login.specs.declared.word.CacheWord.{CacheWord}
use Rattle.ely_login.specs.declared.word.CacheWord.TheVariants as caches
use Rattle.ely_login.specs.declared.word.StateWord.{StateWord}
use Rattle.ely_login.specs.declared.word.StateWord.TheVariants as states
use Rattle.ely_login.specs.declared.word.StepWord.{StepWord}
use Rattle.ely_login.specs.declared.word.StepWord.TheVariants as steps

-- the word of a step: its verb, or which half of a naming or a check it is
abbrev pub step_text : StepWord → List ℕ
step_text steps.BadLine = codes "bad-line"
step_text steps.Add = codes "add"
step_text steps.Remove = codes "remove"
step_text steps.SetCred = codes "set-cred"
step_text steps.DropCred = codes "drop-cred"
step_text steps.SetAttr = codes "set-attr"
step_text steps.DropAttr = codes "drop-attr"
step_text steps.Reload = codes "reload"
step_text steps.Begin = codes "open"
step_text steps.Name1 = codes "name1"
step_text steps.Name2 = codes "name2"
step_text steps.Check1 = codes "check1"
step_text steps.Check2 = codes "check2"
step_text steps.Authorize = codes "authorize"
step_text steps.Allows = codes "allows"
step_text steps.Succeed = codes "succeed"
step_text steps.Fail = codes "fail"
step_text steps.Close = codes "close"

-- the word of a login's state
abbrev pub state_text : StateWord → List ℕ
state_text states.Absent = codes "absent"
state_text states.Fresh = codes "fresh"
state_text states.Loading = codes "loading"
state_text states.Named = codes "named"
state_text states.Checking = codes "checking"
state_text states.Proved = codes "proved"
state_text states.Authorized = codes "authorized"
state_text states.Complete = codes "complete"
state_text states.Failed = codes "failed"

-- the cache word with the space before it
abbrev pub cache_text : CacheWord → List ℕ
cache_text caches.None = []
cache_text caches.Dash = codes " -"
cache_text caches.Hit = codes " hit"
cache_text caches.Miss = codes " miss"
cache_text caches.Kept = codes " kept"
cache_text caches.Late = codes " late"
cache_text caches.Unkept = codes " unkept"

-- the word of a mechanism
abbrev pub mech_text : Mech → List ℕ
mech_text mechs.Plain = codes "PLAIN"
mech_text mechs.ScramSha1 = codes "SCRAM-SHA-1"
mech_text mechs.ScramSha256 = codes "SCRAM-SHA-256"
mech_text mechs.Digest = codes "DIGEST"
mech_text mechs.DigestSha256 = codes "DIGEST-SHA-256"
