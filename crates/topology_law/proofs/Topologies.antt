-- What is read as a topology means its network.
use Rattle.std.proofs.Common.{◌≡◌, ℕ, List, [], ◌∷◌, Some, option_map, inl, inr, refl, sym, ap, ◌∙◌, subst, codes, bytes_eq, true, false, true≢false}
use Rattle.list_law.proofs.Options.{option_and_then_parts, option_map_parts}
use Rattle.json.specs.Json as json
use Rattle.serde_json.specs.Data.{Data, array, object, string, number, unsigned, Items, no_items, item, Members, no_members}
use Rattle.serde_json.specs.Events.{members_len}
use Rattle.serde_json.specs.Find.{get, get_member}
use Rattle.serde_json.specs.Read.{of_json, of_items, of_members}
use Rattle.json_law.specs.Grammar.{IsString, IsObject, Says}
use Rattle.json_law.specs.Written.{IsWritten, AreWritten, MembersAreWritten}
use Rattle.json_law.proofs.Texts.{read_texts_are_written}
use Rattle.net_base.specs.declared.net.Site.{Site}
use Rattle.net_base.specs.Network.{PlainNet}
use Rattle.config_lines.proofs.Addresses.{address_back}
use Rattle.topology.specs.Meaning.{HasKeys as HasCount, EachSays as EachData, HasArray, SaysSite, SaysEnds, SaysLink}
use Rattle.topology_law.specs.TopologyText.{Has, EachSays, IsArrayOf, MeansSite, MeansEnds, MeansLink}
use Rattle.topology_law.specs.TopologyLaws.{ReadTopologiesAreMeant}
use Rattle.topology_law.proofs.Objects.{Found, IsThere, string_written, number_written, array_written, object_written, found, only_these}
use Rattle.topology_law.proofs.Wholes.{whole_number}

-- an object that is read, and its text
record Opened (value : Data) (text : List ℕ) : Type 0 where
  vs : List (List ℕ × List ℕ)
  js : json.Members
  ds : Members
  object_of : IsObject vs text
  written : MembersAreWritten js vs
  read : of_members js no_members ≡ Some ds
  is : value ≡ object ds

opened : (j : json.Json) (value : Data) (text : List ℕ) (n : ℕ) → of_json j ≡ Some value → IsWritten j text → HasCount n value → Opened value text
opened j value text n h w keys =
    let o = object_written j keys.0 text (h ∙ ap Some keys.1) w in
    record { vs = o.0; js = o.1; ds = keys.0; object_of = o.2; written = o.3; read = o.4; is = keys.1 }

module _ (value : Data) (text : List ℕ) (o : Opened value text) where
  there : (key : List ℕ) (d : Data) → get key value ≡ Some d → get_member key o.ds ≡ Some d
  there key d h = ap (get key) (sym o.is) ∙ h

  found_at : (key : List ℕ) (d : Data) → get key value ≡ Some d → Found o.vs key d
  found_at key d h = found o.js o.vs o.ds key d o.written o.read (there key d h)

  is_there : (key : List ℕ) (d : Data) → get key value ≡ Some d → IsThere o.ds key
  is_there key d h = (d, there key d h)

  count : HasCount 3 value → members_len o.ds ≡ 3
  count keys = let same : o.ds ≡ keys.0 = let z = sym o.is ∙ keys.1 in cc in ap members_len same ∙ keys.2

  string_at : (key s : List ℕ) → get key value ≡ Some (string s) → Has o.vs key (IsString s)
  string_at key s h = let f = found_at key (string s) h in (f.text, f.says, string_written f.tree s f.text f.read f.written)

-- ---- items

items_written : {A : Type 0} (Says : Data → A → Type 0) (Means : A → List ℕ → Type 0) → ((d : Data) (x : A) (j : json.Json) (text : List ℕ) → Says d x → of_json j ≡ Some d → IsWritten j text → Means x text)
    → (ds : Items) (xs : List A) (js : json.Items) (vs : List (List ℕ)) → EachData Says ds xs → AreWritten js vs → of_items js ≡ Some ds → EachSays Means xs vs
items_written Says Means one no_items [] json.no_items [] s w h = tt
items_written Says Means one no_items [] json.no_items (v ∷ vs) s w h = absurd w
items_written Says Means one no_items [] (json.item j js) vs s w h =
    absurd (let p = option_and_then_parts (λ d. option_map (item d) (of_items js)) (of_json j) no_items h in let q = option_map_parts (item p.0) (of_items js) no_items p.2 in let z = q.2 in cc)
items_written Says Means one no_items (x ∷ xs) js vs s w h = absurd s
items_written Says Means one (item d ds) [] js vs s w h = absurd s
items_written Says Means one (item d ds) (x ∷ xs) json.no_items vs s w h = absurd cc
items_written Says Means one (item d ds) (x ∷ xs) (json.item j js) [] s w h = absurd w
items_written Says Means one (item d ds) (x ∷ xs) (json.item j js) (v ∷ vs) s w h =
    let p = option_and_then_parts (λ d. option_map (item d) (of_items js)) (of_json j) (item d ds) h in
    let q = option_map_parts (item p.0) (of_items js) (item d ds) p.2 in
    let first : p.0 ≡ d = let z = q.2 in cc in
    let rest : q.0 ≡ ds = let z = q.2 in cc in
    (one d x j v s.0 (p.1 ∙ ap Some first) w.0, items_written Says Means one ds xs js vs s.1 w.1 (q.1 ∙ ap Some rest))

array_at : {A : Type 0} (Says : Data → A → Type 0) (Means : A → List ℕ → Type 0) → ((d : Data) (x : A) (j : json.Json) (text : List ℕ) → Says d x → of_json j ≡ Some d → IsWritten j text → Means x text)
    → (value : Data) (text : List ℕ) (o : Opened value text) (key : List ℕ) (xs : List A) → HasArray key value Says xs → Has o.vs key (IsArrayOf Means xs)
array_at Says Means one value text o key xs h =
    let f = found_at value text o key (array h.0) h.1 in
    let a = array_written f.tree h.0 f.text f.read f.written in
    (f.text, f.says, (a.0, a.2, items_written Says Means one h.0 xs a.1 a.0 h.2 a.3 a.4))

-- ---- the keys differ

apart : (a b : List ℕ) → bytes_eq a b ≡ false → bytes_eq b b ≡ true → a ≡ b → ⊥
apart a b differ same e = true≢false (sym same ∙ ap (λ l. bytes_eq l b) (sym e) ∙ differ)

-- ---- the parts of a topology

site_means : (d : Data) (site : Site) (j : json.Json) (text : List ℕ) → SaysSite d site → of_json j ≡ Some d → IsWritten j text → MeansSite site text
site_means d site j text s h w =
    let o = opened j d text 3 h w s.keys in
    let id = string_at d text o (codes "id") s.address s.id in
    let asn = found_at d text o (codes "asn") (number (unsigned site.asn)) s.asn in
    let n = number_written asn.tree (unsigned site.asn) asn.text asn.read asn.written in
    record {
      members = o.vs;
      keys = (
        o.object_of,
        only_these (codes "name") (codes "asn") (codes "id") (apart (codes "name") (codes "asn") refl refl) (apart (codes "name") (codes "id") refl refl) (apart (codes "asn") (codes "id") refl refl) o.js o.vs o.ds o.written o.read (count d text o s.keys) (is_there d text o (codes "name") _ s.name)
            (is_there d text o (codes "asn") _ s.asn) (is_there d text o (codes "id") _ s.id),
      );
      name = string_at d text o (codes "name") site.name s.name;
      asn = subst (Says o.vs (codes "asn")) (whole_number asn.text site.asn n.0 n.1) asn.says;
      id = (id.0, id.1, subst (λ a. IsString a id.0) (address_back s.address site.id s.spelled).0 id.2);
      lawful = s.lawful;
    }

ends_mean : (net : PlainNet) (d : Data) (a b : ℕ) (j : json.Json) (text : List ℕ) → SaysEnds net d a b → of_json j ≡ Some d → IsWritten j text → MeansEnds net a b text
ends_mean net d a b j text s h w =
    let p = array_written j (item (string s.0.name) (item (string s.1.name) no_items)) text (h ∙ ap Some s.2) w in (
      s.0,
      s.1,
      s.3,
      s.4,
      (
        p.0,
        p.2,
        items_written (λ v x. v ≡ string x) IsString (λ v x i t same read written. string_written i x t (read ∙ ap Some same) written)
            (item (string s.0.name) (item (string s.1.name) no_items)) (s.0.name ∷ s.1.name ∷ []) p.1 p.0 (refl, (refl, tt)) p.3 p.4,
      ),
    )

link_means : (net : PlainNet) (d : Data) (link : ℕ × ℕ) (j : json.Json) (text : List ℕ) → SaysLink net d link → of_json j ≡ Some d → IsWritten j text → MeansLink net link text
link_means net d link j text (inl s) h w = inl (ends_mean net d link.0 link.1 j text s h w)
link_means net d link j text (inr s) h w = inr (ends_mean net d link.1 link.0 j text s h w)

pub topologies_are_meant : ReadTopologiesAreMeant
topologies_are_meant bytes net m =
    let r = read_texts_are_written bytes m.value m.json in
    let o = opened r.0 m.value r.1 3 r.4 r.3 m.keys in
    record {
      utf8 = m.utf8;
      text = r.1;
      padded = r.2;
      members = o.vs;
      keys = (
        o.object_of,
        only_these (codes "routers") (codes "peers") (codes "links") (apart (codes "routers") (codes "peers") refl refl) (apart (codes "routers") (codes "links") refl refl) (apart (codes "peers") (codes "links") refl refl) o.js o.vs o.ds o.written o.read (count m.value r.1 o m.keys)
            (is_there m.value r.1 o (codes "routers") _ m.routers.1) (is_there m.value r.1 o (codes "peers") _ m.peers.1) (is_there m.value r.1 o (codes "links") _ m.said.1),
      );
      routers = array_at SaysSite MeansSite site_means m.value r.1 o (codes "routers") net.routers m.routers;
      peers = array_at SaysSite MeansSite site_means m.value r.1 o (codes "peers") net.peers m.peers;
      links = m.links;
      said = array_at (SaysLink net) (MeansLink net) (link_means net) m.value r.1 o (codes "links") m.links m.said;
      ascend = m.ascend;
      lawful = m.lawful;
    }
