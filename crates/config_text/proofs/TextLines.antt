-- The text of a configuration is that of its lines.
use Rattle.std.proofs.Common.{◌≡◌, ℕ, ◌+◌, List, [], ◌∷◌, ◌++◌, map, Bool, true, false, Some, refl, sym, ◌∙◌, ap, ap₂, append_assoc}
use Rattle.std.specs.Prelude.{codes, if◌then◌else◌}
use Rattle.std.specs.Fmt.{decimal}
use Rattle.std.specs.List.{flat_map}
use Rattle.net_base.specs.Prefixes.{PlainPattern}
use Rattle.config_base.specs.declared.config.RouterConfig.{RouterConfig}
use Rattle.config_base.specs.declared.config.Session.{Session}
use Rattle.config_base.specs.declared.config.Import.{Import}
use Rattle.config_base.specs.Configs.{PlainConfig}
use Rattle.config_lines.specs.declared.edition.Edition.{Edition}
use Rattle.config_lines.specs.declared.line.Line.{Line}
use Rattle.config_lines.specs.declared.line.Line.TheVariants as line
use Rattle.config_lines.specs.Editions.{first_line}
use Rattle.config_text.specs.ConfigLines.{fed, lines_of_classes, head_of, import_of, lines_of_session, lines_before_end, lines_of_router, lines}
use Rattle.config_text.specs.ConfigText.{class_lines, own_line, import_line, export_line, session_line, session_text, router_text, text_in}

-- the texts of a list that is made of others
fed_append : (edition : Edition) (xs ys : List Line) → flat_map (fed edition) (xs ++ ys) ≡ flat_map (fed edition) xs ++ flat_map (fed edition) ys
fed_append edition [] ys = refl
fed_append edition (x ∷ xs) ys = ap (λ (t : List ℕ). fed edition x ++ t) (fed_append edition xs ys) ∙ sym (append_assoc (fed edition x) (flat_map (fed edition) xs) (flat_map (fed edition) ys))

fed_map : {A : Type 0} (edition : Edition) (f : A → List ℕ) (g : A → Line) → ((x : A) → f x ≡ fed edition (g x)) → (xs : List A) → flat_map f xs ≡ flat_map (fed edition) (map g xs)
fed_map edition f g same [] = refl
fed_map edition f g same (x ∷ xs) = ap₂ (λ (a b : List ℕ). a ++ b) (same x) (fed_map edition f g same xs)

fed_flat : {A : Type 0} (edition : Edition) (f : A → List ℕ) (g : A → List Line) → ((x : A) → f x ≡ flat_map (fed edition) (g x)) → (xs : List A)
    → flat_map f xs ≡ flat_map (fed edition) (flat_map g xs)
fed_flat edition f g same [] = refl
fed_flat edition f g same (x ∷ xs) = ap₂ (λ (a b : List ℕ). a ++ b) (same x) (fed_flat edition f g same xs) ∙ sym (fed_append edition (g x) (flat_map g xs))

fed_import : (edition : Edition) (peer : Bool) (r : Import) → import_line edition peer r ≡ fed edition (import_of peer r)
unfolding import_line
fed_import edition true r = refl
fed_import edition false r = refl

fed_head : (edition : Edition) (s : Session) → session_line s ≡ fed edition (head_of s)
fed_head edition s = by s.peer
  where
    by : (b : Bool)
        → (if b then codes "peer " else codes "session ") ++ s.name ++ codes " asn " ++ decimal s.asn ++ codes "\n"
        ≡ fed edition (if b then line.Peer s.name s.asn else line.Session s.name s.asn)
    by true = refl
    by false = refl

fed_session : (edition : Edition) (s : Session) → session_text edition s ≡ flat_map (fed edition) (lines_of_session s)
fed_session edition s =
    append_assoc (session_line s) (flat_map (import_line edition s.peer) s.imports) (flat_map (export_line edition) s.exports)
    ∙ ap₂ (λ (a b : List ℕ). a ++ b) (fed_head edition s)
    (ap₂ (λ (a b : List ℕ). a ++ b) (fed_map edition (import_line edition s.peer) (import_of s.peer) (fed_import edition s.peer) s.imports)
    (fed_map edition (export_line edition) line.Export (λ e. refl) s.exports)
    ∙ sym (fed_append edition (map (import_of s.peer) s.imports) (map line.Export s.exports)))

fed_router : (edition : Edition) (r : RouterConfig) → router_text edition r ≡ flat_map (fed edition) (lines_of_router r)
fed_router edition r =
    ap (λ (t : List ℕ). t ++ codes "end\n")
    (append_assoc (fed edition (line.Router r.name r.asn r.id)) (flat_map (own_line edition) r.own) (flat_map (session_text edition) r.sessions)
    ∙ ap (λ (t : List ℕ). fed edition (line.Router r.name r.asn r.id) ++ t)
    (ap₂ (λ (a b : List ℕ). a ++ b) (fed_map edition (own_line edition) line.Origination (λ o. refl) r.own) (fed_flat edition (session_text edition) lines_of_session (fed_session edition) r.sessions)
    ∙ sym (fed_append edition (map line.Origination r.own) (flat_map lines_of_session r.sessions))))
    ∙ sym (fed_append edition (lines_before_end r) (line.End ∷ []))

fed_classes : (edition : Edition) (k : ℕ) (cs : List (List PlainPattern)) → class_lines edition k cs ≡ flat_map (fed edition) (lines_of_classes k cs)
fed_classes edition k [] = refl
fed_classes edition k (c ∷ cs) = ap (λ (t : List ℕ). fed edition (line.Class (Some k) c) ++ t) (fed_classes edition (k + 1) cs)

pub text_of_lines : (edition : Edition) (c : PlainConfig) → text_in edition c ≡ first_line edition ++ codes "\n" ++ flat_map (fed edition) (lines c)
text_of_lines edition c =
    append_assoc (first_line edition ++ codes "\n") (class_lines edition 1 c.classes) (flat_map (router_text edition) c.routers)
    ∙ ap (λ (t : List ℕ). (first_line edition ++ codes "\n") ++ t)
    (ap₂ (λ (a b : List ℕ). a ++ b) (fed_classes edition 1 c.classes) (fed_flat edition (router_text edition) lines_of_router (fed_router edition) c.routers)
    ∙ sym (fed_append edition (lines_of_classes 1 c.classes) (flat_map lines_of_router c.routers)))
