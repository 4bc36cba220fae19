-- What is kept beside the machine, and the word by which a naming tells what keeping did for it. No outcome depends on either.
use Rattle.std.specs.Prelude.{ℕ, if◌then◌else◌, List, [], None, unwrap_or, Result, Ok, Err}
use Rattle.std.specs.Option.{option_map_or}
use Rattle.ely_row.specs.declared.edit.Edit.{Edit}
use Rattle.ely_row.specs.declared.mech.Mech.{Mech}
use Rattle.ely_table.specs.Touching.{touched_since}
use Rattle.ely_login.specs.declared.outcome.Outcome.{Outcome}
use Rattle.ely_login.specs.declared.word.CacheWord.{CacheWord}
use Rattle.ely_login.specs.declared.word.CacheWord.TheVariants as words
use Rattle.ely_login.specs.Outcomes.{is_accepted}
use Rattle.ely_context.specs.declared.stage.Stage.TheVariants.{Loading}
use Rattle.ely_context.specs.Logins.{login_of, with_login, without_login}
use Rattle.ely_domain.specs.declared.event.Event.{Event}
use Rattle.ely_domain.specs.declared.event.Event.TheVariants as events
use Rattle.ely_domain.specs.Given.{Given}
use Rattle.ely_domain.specs.Identities.{Known, deps}
use Rattle.ely_domain.specs.KeptKeys.{Key, RealmKeys, first_lists, list_of, at_realm, used, dropped, fill_by, word_in, word_after}
use Rattle.ely_domain.specs.Logins.{Pinned, KnownStage, KnownLogin, Live}
use Rattle.ely_domain.specs.Machine.{Machine, known}
use Rattle.ely_domain.specs.Steps.{naming}

-- of each live login the word that its naming showed, while it is loading, and no word else
abbrev pub Founds : Type 0
Founds = List (ℕ × CacheWord)

-- the keys that each caching realm keeps, and what the namings found that are under way
pub record Kept : Type 0 where
  pub lists : List RealmKeys
  pub founds : Founds

-- what is kept before the first event
abbrev pub first_kept : Given → Kept
first_kept given = record { lists = first_lists given.config.realms; founds = [] }

-- what the naming of the login with this id found
abbrev pub found_at : Founds → ℕ → CacheWord
found_at founds c = unwrap_or (login_of founds c) words.None

-- what an accepted step of a login means for the keys: a naming begins or ends, for a mechanism and with its pin
pub data Meaning : Type 0 where
  Nothing : Meaning
  Begins : Mech → Pinned → Meaning
  Ends : Mech → Pinned → Meaning

-- a naming begins that pins this, where it pins anything
abbrev pub begins_with : Mech → Result Pinned Outcome → Meaning
begins_with mech (Ok pin) = Begins mech pin
begins_with mech (Err refusal) = Nothing

-- a loading login's naming ends
abbrev pub ends_at : Mech → KnownStage → Meaning
ends_at mech (Loading pin) = Ends mech pin
ends_at mech stage = Nothing

-- what an accepted step of a login means
abbrev pub means : Known → Event → KnownLogin → Meaning
means known (events.Name1 c claim) login = begins_with login.mech (naming known login.mech claim)
means known (events.Name2 c serial brought) login = ends_at login.mech login.stage
means known _ login = Nothing

-- the same of the login with this id
abbrev pub meaning : Known → Live → ℕ → Event → Meaning
meaning known live c event = option_map_or (means known event) (login_of live.logins c) Nothing

-- the key that is sought for a mechanism and a pin
abbrev pub sought : Mech → Pinned → Key
sought mech pin = record { name = pin.place.name; mech = mech }

-- the word behind an accepted step of that meaning, where its naming found this
abbrev pub word_by : Known → List RealmKeys → CacheWord → Meaning → CacheWord
word_by known lists found Nothing = words.None
word_by known lists found (Begins mech pin) = word_in (list_of lists pin.place.realm) (sought mech pin)
word_by known lists found (Ends mech pin) = word_after found (touched_since known.edits pin.version (deps known pin.place))

-- the lists after it
abbrev pub lists_by : Meaning → CacheWord → List RealmKeys → List RealmKeys
lists_by Nothing shown lists = lists
lists_by (Begins mech pin) shown lists = at_realm pin.place.realm (λ limit. used (sought mech pin)) lists
lists_by (Ends mech pin) shown lists = fill_by shown pin.place.realm (sought mech pin) lists

-- what the namings found, after an accepted step of the login with this id that showed this word
abbrev pub founds_by : ℕ → Event → CacheWord → Founds → Founds
founds_by c (events.Name1 d claim) shown founds = with_login founds c shown
founds_by c (events.Name2 d serial brought) shown founds = with_login founds c words.None
founds_by c (events.Fail d) shown founds = with_login founds c words.None
founds_by c _ shown founds = founds

-- the word that is due behind an outcome of a step of the login with this id
abbrev pub word_on : Known → Live → Kept → ℕ → Event → Outcome → CacheWord
word_on known live kept c event outcome =
    if is_accepted outcome then word_by known kept.lists (found_at kept.founds c) (meaning known live c event) else words.None

-- what is kept after a step of that login that showed this word
abbrev pub kept_on : Known → Live → Kept → ℕ → Event → Outcome → CacheWord → Kept
kept_on known live kept c event outcome shown =
    if is_accepted outcome
    then record { lists = lists_by (meaning known live c event) shown kept.lists; founds = founds_by c event shown kept.founds }
    else kept

-- after an accepted edit the keys that it touches are gone
abbrev pub kept_changed : Given → Kept → Edit → Outcome → Kept
kept_changed given kept edit outcome =
    if is_accepted outcome
    then record { lists = dropped given.config.realms edit kept.lists; founds = kept.founds }
    else kept

-- the same lists, where the namings under way found this
abbrev pub with_founds : Kept → Founds → Kept
with_founds kept founds = record { lists = kept.lists; founds = founds }

-- after an accepted step what the namings found is this
abbrev pub kept_opened : Kept → Founds → Outcome → Kept
kept_opened kept founds outcome = if is_accepted outcome then with_founds kept founds else kept

-- the word that is due behind an outcome of an event at a machine
abbrev pub word_due : Given → Machine → Kept → Event → Outcome → CacheWord
word_due given m kept (events.Name1 c claim) outcome = word_on (known given m) m.live kept c (events.Name1 c claim) outcome
word_due given m kept (events.Name2 c serial brought) outcome = word_on (known given m) m.live kept c (events.Name2 c serial brought) outcome
word_due given m kept event outcome = words.None

-- what is kept after a step that showed this word
abbrev pub kept_after : Given → Machine → Kept → Event → Outcome → CacheWord → Kept
kept_after given m kept (events.Change edit) outcome shown = kept_changed given kept edit outcome
kept_after given m kept (events.Begin c mech brought) outcome shown = kept_opened kept (with_login kept.founds c words.None) outcome
kept_after given m kept (events.Close c) outcome shown = with_founds kept (without_login kept.founds c)
kept_after given m kept (events.Name1 c claim) outcome shown = kept_on (known given m) m.live kept c (events.Name1 c claim) outcome shown
kept_after given m kept (events.Name2 c serial brought) outcome shown =
    kept_on (known given m) m.live kept c (events.Name2 c serial brought) outcome shown
kept_after given m kept (events.Fail c) outcome shown = kept_opened kept (with_login kept.founds c words.None) outcome
kept_after given m kept event outcome shown = kept
