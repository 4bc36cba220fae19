-- What a domain is made with, and what follows from it alone.
use Rattle.std.specs.Prelude.{ℕ, List, [], ◌∷◌, ◌++◌, take, map, codes, Option, Some, None, unwrap_or, Result}
use Rattle.std.specs.List.{filter_map}
use Rattle.std.specs.Int.{w64, to_be_bytes}
use Rattle.ely_base.specs.Texts.{hex_text}
use Rattle.ely_hash.specs.Hashes.{sha256_hash}
use Rattle.ely_row.specs.declared.edit.Edit.{Edit}
use Rattle.ely_row.specs.declared.edit.Edit.TheVariants.{Reload}
use Rattle.ely_row.specs.declared.mech.Mech.{Mech}
use Rattle.ely_row.specs.declared.mech.Mech.TheVariants as mechs
use Rattle.ely_pipeline.specs.declared.place.PipeFault.{PipeFault}
use Rattle.ely_pipeline.specs.declared.place.Place.{Place}
use Rattle.ely_pipeline.specs.Places as places
use Rattle.ely_table.specs.declared.class.RealmClass.{RealmClass}
use Rattle.ely_table.specs.declared.class.RealmClass.TheVariants as classes
use Rattle.ely_config.specs.declared.realm.RealmConfig.{RealmConfig}
use Rattle.ely_config.specs.declared.realm.RealmKind.{RealmKind}
use Rattle.ely_config.specs.declared.realm.RealmKind.TheVariants as kinds
use Rattle.ely_config.specs.Configs.{Config}

-- the configuration, and the most edits that the journal takes
pub record Given : Type 0 where
  pub config : Config
  pub limit : ℕ

-- the class of a kind of realm; the hashes of a text that names no realm are of the one that Digest announces
abbrev pub class_by : List ℕ → RealmKind → RealmClass
class_by digest_realm kinds.Modifiable = classes.Modifiable
class_by digest_realm (kinds.Properties plain users groups) = classes.Properties plain digest_realm
class_by digest_realm (kinds.Aggregate authentication authorization) = classes.Composite
class_by digest_realm (kinds.Caching of limit) = classes.Composite

-- these realms with their classes
abbrev pub classed : List ℕ → List RealmConfig → List (List ℕ × RealmClass)
classed digest_realm realms = map (λ realm. (realm.name, class_by digest_realm realm.kind)) realms

-- the realms with their classes
abbrev pub realms : Given → List (List ℕ × RealmClass)
realms given = classed given.config.digest_realm given.config.realms

-- the edit that fills a realm of this name and kind with the identities of its texts, where it has texts
abbrev pub loading : List ℕ → RealmKind → Option Edit
loading name (kinds.Properties plain users groups) = Some (Reload name users groups)
loading name _ = None

-- the same of these realms, in order
unfoldable pub loadings : List RealmConfig → List Edit
loadings realms = filter_map (λ realm. loading realm.name realm.kind) realms

-- the edits with which the journal begins: one reload of each realm that has texts
abbrev pub start : Given → List Edit
start given = loadings given.config.realms

-- the place of a name by the stages of the configuration, or the first stage that gives nothing
abbrev pub place_of : Given → List ℕ → Result Place PipeFault
place_of given name = places.place_of given.config.pipeline name

-- the nonce of an open that brings none: the first 16 bytes of a digest of the seed and the serial, in hexadecimal
unfoldable pub derived_nonce : List ℕ → ℕ → List ℕ
derived_nonce seed serial =
    hex_text (take 16 (sha256_hash.digest (seed ++ 0 ∷ [] ++ codes "nonce" ++ 0 ∷ [] ++ to_be_bytes w64 serial)))

-- the nonce of an open that brings this one or none; PLAIN doesn't use it
abbrev pub nonce_of : Given → Mech → ℕ → Option (List ℕ) → List ℕ
nonce_of given mechs.Plain serial brought = unwrap_or brought []
nonce_of given mech serial brought = unwrap_or brought (derived_nonce given.config.params.seed serial)
