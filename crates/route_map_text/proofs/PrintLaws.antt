-- The text of lines, one after another.
use Rattle.std.proofs.Common.{◌≡◌, ℕ, ◌+◌, ◌*◌, ◌<◌, List, [], ◌∷◌, ◌++◌, length, map, take, drop, drop-cons, add-one, get_or, Some, refl, sym, ◌∙◌, ap, ap₂}
use Rattle.std.proofs.Common.{arith, append-nil, append_assoc}
use Rattle.std.specs.Prelude.{codes}
use Rattle.std.specs.List.{flat_map}
use Rattle.std.proofs.lemmas.List.{take_more, map-append, length-map, length-take-le}
use Rattle.std.proofs.lemmas.List.Concat.{flat_map-append}
use Rattle.config_base.specs.declared.config.RouterConfig.{RouterConfig}
use Rattle.config_base.specs.declared.config.Session.{Session}
use Rattle.config_lines.specs.declared.line.Line.{Line}
use Rattle.config_lines.specs.declared.line.Line.TheVariants as line
use Rattle.route_maps.specs.declared.maps.ListLine.{ListLine}
use Rattle.route_maps.specs.Maps.{PlainMaps}
use Rattle.route_map_text.specs.declared.line.MapLine.{MapLine}
use Rattle.route_map_text.specs.declared.line.MapLine.TheVariants as written
use Rattle.route_map_text.specs.MapsLines.{fed, lines_of_list, lines_of_lists, numbered, network_of, lines_of_session, lines_of_router, maps_text}

pub fed-map : {X : Type 0} (f : X → MapLine) (xs : List X) → flat_map fed (map f xs) ≡ flat_map (λ (x : X). fed (f x)) xs
fed-map f [] = refl
fed-map f (x ∷ xs) = ap (λ (t : List ℕ). fed (f x) ++ t) (fed-map f xs)

pub fed-flat_map : {X : Type 0} (f : X → List MapLine) (xs : List X) → flat_map fed (flat_map f xs) ≡ flat_map (λ (x : X). flat_map fed (f x)) xs
fed-flat_map f [] = refl
fed-flat_map f (x ∷ xs) = flat_map-append fed (f x) (flat_map f xs) ∙ ap (λ (t : List ℕ). flat_map fed (f x) ++ t) (fed-flat_map f xs)

numbered-push : (k : ℕ) (ls : List Line) (l : Line) → numbered k (ls ++ l ∷ []) ≡ numbered k ls ++ written.Entry (Some (k + 10 * length ls)) l ∷ []
numbered-push k [] l = let e : k ≡ k + 10 * 0 = omega arith in ap (λ n. written.Entry (Some n) l ∷ []) e
numbered-push k (x ∷ ls) l =
    let e : k + 10 + 10 * length ls ≡ k + 10 * length (x ∷ ls) = omega arith in
    ap (λ (ms : List MapLine). written.Entry (Some k) x ∷ ms) (numbered-push (k + 10) ls l ∙ ap (λ n. numbered (k + 10) ls ++ written.Entry (Some n) l ∷ []) e)

-- an entry more
pub entry_more : {X : Type 0} (f : X → Line) (xs : List X) (i : ℕ) (d : X) (number : ℕ) (old now next : List ℕ) → i < length xs → number ≡ 10 + 10 * i
    → now ≡ old ++ flat_map fed (numbered 10 (map f (take i xs))) → next ≡ now ++ fed (written.Entry (Some number) (f (get_or xs i d)))
    → next ≡ old ++ flat_map fed (numbered 10 (map f (take (i + 1) xs)))
entry_more f xs i d number old now next h n so_far added =
    let x = get_or xs i d in
    let ls : List Line = map f (take i xs) in
    let count : 10 + 10 * length ls ≡ number = omega (arith, n, length-map (take i xs) f, length-take-le i xs (omega (arith, h))) in
    let whole : numbered 10 (map f (take (i + 1) xs)) ≡ numbered 10 ls ++ written.Entry (Some number) (f x) ∷ [] =
    ap (λ (ys : List _). numbered 10 (map f ys)) (take_more xs i d h) ∙ ap (numbered 10) (map-append f (take i xs) (x ∷ []))
    ∙ numbered-push 10 ls (f x) ∙ ap (λ m. numbered 10 ls ++ written.Entry (Some m) (f x) ∷ []) count in
    added
    ∙ ap (λ (t : List ℕ). t ++ fed (written.Entry (Some number) (f x))) so_far
    ∙ append_assoc old (flat_map fed (numbered 10 ls)) (fed (written.Entry (Some number) (f x)))
    ∙ ap (λ (t : List ℕ). old ++ (flat_map fed (numbered 10 ls) ++ t)) (sym (append-nil (fed (written.Entry (Some number) (f x)))))
    ∙ ap (λ (t : List ℕ). old ++ t) (sym (flat_map-append fed (numbered 10 ls) (written.Entry (Some number) (f x) ∷ [])) ∙ ap (flat_map fed) (sym whole))

-- a list more
pub list_more : (lists : List (List ListLine)) (i n : ℕ) (x d : List ListLine) (whole now next : List ℕ) → i < length lists → x ≡ get_or lists i d
    → whole ≡ now ++ flat_map fed (lines_of_lists n (drop i lists)) → next ≡ now ++ flat_map (λ (l : ListLine). fed (written.List (Some n) l)) x
    → whole ≡ next ++ flat_map fed (lines_of_lists (n + 1) (drop (i + 1) lists))
list_more lists i n x d whole now next h this so_far added =
    let at : drop i lists ≡ x ∷ drop (i + 1) lists = rw add-one (drop-cons lists i d h) ∙ ap (λ (y : List ListLine). y ∷ drop (i + 1) lists) (sym this) in
    so_far
    ∙ ap (λ (ls : List (List ListLine)). now ++ flat_map fed (lines_of_lists n ls)) at
    ∙ ap (λ (t : List ℕ). now ++ t) (flat_map-append fed (lines_of_list n x) (lines_of_lists (n + 1) (drop (i + 1) lists))
    ∙ ap (λ (t : List ℕ). t ++ flat_map fed (lines_of_lists (n + 1) (drop (i + 1) lists))) (fed-map (written.List (Some n)) x))
    ∙ sym (append_assoc now (flat_map (λ (l : ListLine). fed (written.List (Some n) l)) x) (flat_map fed (lines_of_lists (n + 1) (drop (i + 1) lists))))
    ∙ ap (λ (t : List ℕ). t ++ flat_map fed (lines_of_lists (n + 1) (drop (i + 1) lists))) (sym added)

-- ---- blocks by their parts

pub router_made : (r : RouterConfig) (old head owns sessions end : List ℕ) → head ≡ old ++ fed (written.Block (line.Router r.name r.asn r.id))
    → owns ≡ head ++ flat_map (λ o. fed (network_of o)) r.own → sessions ≡ owns ++ flat_map (λ (s : Session). flat_map fed (lines_of_session s)) r.sessions → end ≡ sessions ++ codes "end\n"
    → end ≡ old ++ flat_map fed (lines_of_router r)
router_made r old head owns sessions end a b c d =
    let h : MapLine = written.Block (line.Router r.name r.asn r.id) in
    let os : List MapLine = map network_of r.own in
    let ss : List MapLine = flat_map lines_of_session r.sessions in
    let e : List MapLine = written.Block line.End ∷ [] in
    d
    ∙ ap (λ (t : List ℕ). t ++ codes "end\n") (c
    ∙ ap₂ (λ (x y : List ℕ). x ++ y) (b ∙ ap₂ (λ (x y : List ℕ). x ++ y) a (sym (fed-map network_of r.own)))
    (sym (fed-flat_map lines_of_session r.sessions)))
    ∙ append_assoc ((old ++ fed h) ++ flat_map fed os) (flat_map fed ss) (flat_map fed e)
    ∙ append_assoc (old ++ fed h) (flat_map fed os) (flat_map fed ss ++ flat_map fed e)
    ∙ append_assoc old (fed h) (flat_map fed os ++ (flat_map fed ss ++ flat_map fed e))
    ∙ ap (λ (t : List ℕ). old ++ (fed h ++ t)) (sym (append_assoc (flat_map fed os) (flat_map fed ss) (flat_map fed e))
    ∙ ap (λ (t : List ℕ). t ++ flat_map fed e) (sym (flat_map-append fed os ss)) ∙ sym (flat_map-append fed (os ++ ss) e))

pub maps_made : (m : PlainMaps) (none first lists routers : List ℕ) → none ≡ [] → first ≡ none ++ codes "propane-maps 1\n" → lists ≡ first ++ flat_map fed (lines_of_lists 1 m.lists)
    → routers ≡ lists ++ flat_map (λ (r : RouterConfig). flat_map fed (lines_of_router r)) m.routers → routers ≡ maps_text m
maps_made m none first lists routers z a b c =
    c
    ∙ ap₂ (λ (x y : List ℕ). x ++ y)
    (b ∙ ap (λ (t : List ℕ). t ++ flat_map fed (lines_of_lists 1 m.lists)) (a ∙ ap (λ (t : List ℕ). t ++ codes "propane-maps 1\n") z))
    (sym (fed-flat_map lines_of_router m.routers))
    ∙ append_assoc (codes "propane-maps 1\n") (flat_map fed (lines_of_lists 1 m.lists)) (flat_map fed (flat_map lines_of_router m.routers))
    ∙ ap (λ (t : List ℕ). codes "propane-maps 1\n" ++ t) (sym (flat_map-append fed (lines_of_lists 1 m.lists) (flat_map lines_of_router m.routers)))
