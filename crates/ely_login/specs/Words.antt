-- Which steps are the same.
use Rattle.std.specs.Prelude.{ℕ, Bool, nat_eq}
use Rattle.ely_login.specs.declared.word.StepWord.{StepWord}
use Rattle.ely_login.specs.declared.word.StepWord.TheVariants as steps

-- each step's number, to tell steps apart
abbrev pub word_number : StepWord → ℕ
word_number steps.BadLine = 0
word_number steps.Add = 1
word_number steps.Remove = 2
word_number steps.SetCred = 3
word_number steps.DropCred = 4
word_number steps.SetAttr = 5
word_number steps.DropAttr = 6
word_number steps.Reload = 7
word_number steps.Begin = 8
word_number steps.Name1 = 9
word_number steps.Name2 = 10
word_number steps.Check1 = 11
word_number steps.Check2 = 12
word_number steps.Authorize = 13
word_number steps.Allows = 14
word_number steps.Succeed = 15
word_number steps.Fail = 16
word_number steps.Close = 17

-- both are the same step
abbrev pub same_word : StepWord → StepWord → Bool
same_word v w = nat_eq (word_number v) (word_number w)
