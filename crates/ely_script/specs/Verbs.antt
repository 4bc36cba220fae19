-- The verbs: each one's word, and what its arguments ask for.
use Rattle.std.specs.Prelude.{ℕ, if◌then◌else◌, List, [], ◌∷◌, codes, Option, Some, None, Result, Err}
use Rattle.std.specs.Str.{bytes_eq}
use Rattle.ely_script.specs.declared.command.Verb.{Verb}
use Rattle.ely_script.specs.declared.command.Verb.TheVariants as verbs
use Rattle.ely_login.specs.declared.outcome.BadLine.{BadLine}
use Rattle.ely_login.specs.declared.outcome.BadLine.TheVariants as bad
use Rattle.ely_script.specs.declared.verbs.VerbWord.{VerbWord}
use Rattle.ely_script.specs.declared.verbs.VerbWord.TheVariants as words
use Rattle.ely_script.specs.EditLines.{add_of, remove_of, set_cred_of, drop_cred_of, set_attr_of, drop_attr_of, reload_of}
use Rattle.ely_script.specs.LoginLines.{open_of, plain_line_of, first_line_of, final_line_of, digest_line_of, only_ctx_of, allows_of}

-- the word of each verb
abbrev pub verb_words : List (List ℕ × VerbWord)
verb_words =
    (codes "add", words.Add) ∷
    (codes "remove", words.Remove) ∷
    (codes "set-cred", words.SetCred) ∷
    (codes "drop-cred", words.DropCred) ∷
    (codes "set-attr", words.SetAttr) ∷
    (codes "drop-attr", words.DropAttr) ∷
    (codes "reload", words.Reload) ∷
    (codes "open", words.Open) ∷
    (codes "plain", words.Plain) ∷
    (codes "first", words.First) ∷
    (codes "final", words.Final) ∷
    (codes "digest", words.Digest) ∷
    (codes "authorize", words.Authorize) ∷
    (codes "succeed", words.Succeed) ∷
    (codes "fail", words.Fail) ∷
    (codes "close", words.Close) ∷
    (codes "allows", words.Allows) ∷
    []

-- the verb whose word it is
abbrev pub named_in : List (List ℕ × VerbWord) → List ℕ → Option VerbWord
named_in [] word = None
named_in (row ∷ rows) word = if bytes_eq word row.0 then Some row.1 else named_in rows word

-- the verb that a word is
unfoldable pub verb_word_of : List ℕ → Option VerbWord
verb_word_of word = named_in verb_words word

-- what the arguments of each verb ask for
abbrev pub args_of : VerbWord → List (List ℕ) → Result Verb BadLine
args_of words.Add args = add_of args
args_of words.Remove args = remove_of args
args_of words.SetCred args = set_cred_of args
args_of words.DropCred args = drop_cred_of args
args_of words.SetAttr args = set_attr_of args
args_of words.DropAttr args = drop_attr_of args
args_of words.Reload args = reload_of args
args_of words.Open args = open_of args
args_of words.Plain args = plain_line_of args
args_of words.First args = first_line_of args
args_of words.Final args = final_line_of args
args_of words.Digest args = digest_line_of args
args_of words.Authorize args = only_ctx_of verbs.Authorize args
args_of words.Succeed args = only_ctx_of verbs.Succeed args
args_of words.Fail args = only_ctx_of verbs.Fail args
args_of words.Close args = only_ctx_of verbs.Close args
args_of words.Allows args = allows_of args

-- what these arguments ask for, where the verb is known
abbrev pub known_of : Option VerbWord → List (List ℕ) → Result Verb BadLine
known_of None args = Err bad.Verb
known_of (Some verb) args = args_of verb args

-- what a verb's word and its arguments ask for
abbrev pub verb_of : List ℕ → List (List ℕ) → Result Verb BadLine
verb_of word args = known_of (verb_word_of word) args
