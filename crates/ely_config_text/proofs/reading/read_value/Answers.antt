use Rattle.std.proofs.Common.{◌≡◌, Bool, true, false, None, refl}
use Rattle.std.specs.Str.{is_utf8}
use Rattle.std.proofs.lemmas.Str.{IsUtf8-from_is_utf8, is_utf8-from_IsUtf8}
use Rattle.ely_config_text.specs.Texts.{value_in}
use Rattle.ely_config_text.proofs.reading.read_value.Goals as goal

pub returns-in-Ok : goal.returns-in-Ok
returns-in-Ok c = rw (is_utf8-from_IsUtf8 c.args.line.now c.in-Ok.ensures.ok.0, c.in-Ok.ensures.ok.1) refl

pub returns-else-is_memory : goal.returns-else-is_memory
returns-else-is_memory c = by (is_utf8 c.args.line.now) refl
  where
    never : false ≡ true → ⊥
    never h = absurd cc

    by : (b : Bool) → is_utf8 c.args.line.now ≡ b → None ≡ value_in c.args.line.now
    by true e = rw (e, c.in-Err.ensures.err (λ m. never (c.if-is_memory.ensures.1 m)) (IsUtf8-from_is_utf8 c.args.line.now e)) refl
    by false e = rw e refl
