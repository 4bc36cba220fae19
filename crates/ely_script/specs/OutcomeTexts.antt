-- The printed outcomes.
use Rattle.std.specs.Prelude.{ℕ, List, [], ◌∷◌, ◌++◌, codes, Option, Some, None}
use Rattle.std.specs.Fmt.{decimal}
use Rattle.ely_base.specs.Texts.{base64_text}
use Rattle.ely_base.specs.Words.{word_text}
use Rattle.ely_pipeline.specs.declared.place.Place.{Place}
use Rattle.ely_login.specs.declared.outcome.Outcome.{Outcome}
use Rattle.ely_login.specs.declared.outcome.Outcome.TheVariants as outcomes
use Rattle.ely_script.specs.FaultTexts.{bad_text, fault_text, pipe_text}
use Rattle.ely_script.specs.Words.{state_text, mech_text}

-- the challenge behind an open's serial
abbrev pub challenge_text : Option (List ℕ) → List ℕ
challenge_text None = []
challenge_text (Some challenge) = 32 ∷ challenge

-- the verifier behind a proof
abbrev pub verifier_text : Option (List ℕ) → List ℕ
verifier_text None = []
verifier_text (Some verifier) = codes " v=" ++ base64_text verifier

-- roles, each as a word, with this before the first and a comma before each other
abbrev pub roles_from : List ℕ → List (List ℕ) → List ℕ
roles_from mark [] = []
roles_from mark (role ∷ roles) = mark ++ word_text role ++ roles_from (codes ",") roles

-- roles, each as a word, with commas between them
abbrev pub roles_text : List (List ℕ) → List ℕ
roles_text roles = roles_from [] roles

-- an identity that was established
abbrev pub established_text : ℕ → Place → List (List ℕ) → List ℕ
established_text version place roles =
    codes "established " ++ decimal version ++ codes " " ++ word_text place.realm ++ codes " " ++ word_text place.name
    ++ codes " roles=" ++ roles_text roles

-- an outcome
abbrev pub outcome_text : Outcome → List ℕ
outcome_text (outcomes.Bad fault) = bad_text fault
outcome_text (outcomes.Changed version) = codes "ok " ++ decimal version
outcome_text (outcomes.Refused fault) = fault_text fault
outcome_text (outcomes.Opened serial challenge) = codes "ok " ++ decimal serial ++ challenge_text challenge
outcome_text outcomes.InUse = codes "in-use"
outcome_text outcomes.ContextsFull = codes "contexts-full 4096"
outcome_text outcomes.NonceUsed = codes "nonce-used"
outcome_text (outcomes.Pinned version) = codes "pinned " ++ decimal version
outcome_text (outcomes.State state) = codes "state " ++ state_text state
outcome_text (outcomes.Mechanism mech) = codes "mechanism " ++ mech_text mech
outcome_text outcomes.Authzid = codes "authzid"
outcome_text (outcomes.Pipe fault) = codes "pipe " ++ pipe_text fault
outcome_text outcomes.Unknown = codes "unknown"
outcome_text outcomes.NoCredential = codes "no-credential"
outcome_text outcomes.Named = codes "named"
outcome_text (outcomes.Challenge text) = codes "challenge " ++ text
outcome_text outcomes.Gone = codes "gone"
outcome_text outcomes.Fine = codes "ok"
outcome_text outcomes.Stale = codes "stale"
outcome_text (outcomes.Replayed last) = codes "replayed " ++ decimal last
outcome_text (outcomes.Proved verifier) = codes "proved" ++ verifier_text verifier
outcome_text outcomes.Binding = codes "binding e=channel-bindings-dont-match"
outcome_text outcomes.Nonce = codes "nonce e=other-error"
outcome_text outcomes.Proof = codes "proof e=invalid-proof"
outcome_text outcomes.Password = codes "password"
outcome_text outcomes.Realm = codes "realm"
outcome_text outcomes.Uri = codes "uri"
outcome_text outcomes.Response = codes "response"
outcome_text outcomes.Authorized = codes "authorized"
outcome_text (outcomes.Denied version) = codes "denied " ++ decimal version
outcome_text outcomes.Yes = codes "yes"
outcome_text outcomes.No = codes "no"
outcome_text (outcomes.Established version place roles) = established_text version place roles
