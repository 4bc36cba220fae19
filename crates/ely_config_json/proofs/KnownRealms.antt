-- The pipeline of a value knows the realms of the value, by their names and in their order.
use Rattle.std.proofs.Common.{◌≡◌, ◌∙◌, ℕ, true, List, [], ◌∷◌, map, codes, bytes_eq, Option, Some, None, refl, sym, ap}
use Rattle.std.proofs.lemmas.Slice.Eq.{bytes_eq-Decides}
use Rattle.std.specs.Option.{option_map_or}
use lib.Pointwise.{pointwise}
use Rattle.serde_json.specs.Data.{Data, Items as Values, no_items, item, Members as Object}
use Rattle.serde_json.specs.Find.{as_array, as_object, get_member}
use Rattle.ely_pipeline.specs.declared.pipeline.Pipeline.{Pipeline}
use Rattle.ely_config.specs.declared.realm.RealmConfig.{RealmConfig}
use Rattle.ely_config.specs.declared.members.Members.{Members}
use Rattle.ely_config.specs.Configs.{knows, main_realm, names_of, plain_pipeline}
use Rattle.ely_config_json.specs.Members.{members_in, members_of, places_in, rights_in, keys_in}
use Rattle.ely_config_json.specs.Names.{name_of}
use Rattle.ely_config_json.specs.Parts.{both, each_of, list_of, needed}
use Rattle.ely_config_json.specs.Pipelines.{Known, default_realm_in, targets_in, known_in, known_of, pipeline_in}
use Rattle.ely_config_json.specs.Realms.{realm_in, realm_of}
use Rattle.ely_config_json.proofs.Presence.{both-first, both-second, map-source, then-source}

-- the names of realms as a pipeline knows them
abbrev known_names : List Known → List (List ℕ)
known_names known = map (λ k. k.0) known

-- a realm has the name that its object says
realm_in-name : (object : Object) (realm : RealmConfig) → realm_in object ≡ Some realm → needed name_of (codes "name") object ≡ Some realm.name
realm_in-name object realm is =
    let made = map-source _ _ realm is in
    both-first _ _ _ (both-first _ _ _ made.1) ∙ ap (λ (r : RealmConfig). Some r.name) made.2

-- a value's realm has the name that the pipeline knows
same_name : (value : Data) (realm : RealmConfig) (known : Known) → realm_of value ≡ Some realm → known_of value ≡ Some known → known.0 ≡ realm.name
same_name value realm known is is_known =
    let r = then-source _ (as_object value) realm is in
    let k = then-source _ (as_object value) known is_known in
    let object : r.0 ≡ k.0 = cc in
    let name : needed name_of (codes "name") r.0 ≡ Some realm.name = realm_in-name r.0 realm r.2 in
    let other : needed name_of (codes "name") k.0 ≡ Some known.0 = both-first _ _ known k.2 in
    cc

each_name : (values : Values) (realms : List RealmConfig) (known : List Known) → each_of realm_of values ≡ Some realms → each_of known_of values ≡ Some known
    → known_names known ≡ names_of realms
each_name no_items realms known is is_known =
    let no_realms : [] ≡ realms = cc in
    let no_known : [] ≡ known = cc in
    ap known_names (sym no_known) ∙ ap names_of no_realms
each_name (item value values) realms known is is_known =
    let r = then-source _ (realm_of value) realms is in
    let rs = map-source (λ parts. r.0 ∷ parts) (each_of realm_of values) realms r.2 in
    let k = then-source _ (known_of value) known is_known in
    let ks = map-source (λ parts. k.0 ∷ parts) (each_of known_of values) known k.2 in
    let first : k.0.0 ≡ r.0.name = same_name value r.0 k.0 r.1 k.1 in
    let others : known_names ks.0 ≡ names_of rs.0 = each_name values rs.0 ks.0 rs.1 ks.1 in
    ap known_names (sym ks.2) ∙ ap (λ n. n ∷ known_names ks.0) first ∙ ap (λ ns. r.0.name ∷ ns) others ∙ ap names_of rs.2

array_names : (value : Data) (realms : List RealmConfig) (known : List Known) → list_of realm_of value ≡ Some realms → list_of known_of value ≡ Some known
    → known_names known ≡ names_of realms
array_names value realms known is is_known =
    let r = then-source _ (as_array value) realms is in
    let k = then-source _ (as_array value) known is_known in
    let array : k.0 ≡ r.0 = cc in
    each_name r.0 realms known r.2 (ap (each_of known_of) (sym array) ∙ k.2)

given_names : (member : Option Data) (realms : List RealmConfig) (known : List Known)
    → option_map_or (list_of realm_of) member (Some (main_realm ∷ [])) ≡ Some realms
    → option_map_or (list_of known_of) member (Some plain_pipeline.realms) ≡ Some known → known_names known ≡ names_of realms
given_names (Some value) realms known is is_known = array_names value realms known is is_known
given_names None realms known is is_known =
    let main : main_realm ∷ [] ≡ realms = cc in
    let plain : plain_pipeline.realms ≡ known = cc in
    ap known_names (sym plain) ∙ ap names_of main

targets_in-known : (object : Object) (targets : List ℕ × List Known) → targets_in object ≡ Some targets → known_in object ≡ Some targets.1
targets_in-known object targets is =
    let k = then-source _ (known_in object) targets is in
    let made = map-source (λ name. (name, k.0)) (default_realm_in k.0 object) targets k.2 in
    k.1 ∙ ap (λ (p : List ℕ × List Known). Some p.1) made.2

pipeline_in-known : (object : Object) (pipe : Pipeline) → pipeline_in object ≡ Some pipe → known_in object ≡ Some pipe.realms
pipeline_in-known object pipe is =
    let made = map-source _ _ pipe is in
    targets_in-known object made.0.1 (both-second _ _ _ made.1) ∙ ap (λ (p : Pipeline). Some p.realms) made.2

-- texts are themselves, one by one
own_texts : (texts : List (List ℕ)) → pointwise bytes_eq texts texts ≡ true
own_texts [] = refl
own_texts (text ∷ texts) = rw ((bytes_eq-Decides text text).1 refl) (own_texts texts)

members_in-known : (object : Object) (members : Members) → members_in object ≡ Some members → known_names members.pipeline.realms ≡ names_of members.realms
members_in-known object members is =
    let made = map-source _ _ members is in
    let places = both-first _ _ _ (both-second (keys_in object) (both (places_in object) (rights_in object)) _ made.1) in
    let known = pipeline_in-known object made.0.1.0.0 (both-first _ _ _ places) in
    let realms = both-second _ _ _ places in
    given_names (get_member (codes "realms") object) members.realms members.pipeline.realms
    (realms ∙ ap (λ (m : Members). Some m.realms) made.2) (known ∙ ap (λ (m : Members). Some m.pipeline.realms) made.2)

pub members_of-knows : (value : Data) (members : Members) → members_of value ≡ Some members → knows members.pipeline members.realms ≡ true
members_of-knows value members is =
    let object = then-source _ (as_object value) members is in
    rw (members_in-known object.0 members object.2) (own_texts (names_of members.realms))
