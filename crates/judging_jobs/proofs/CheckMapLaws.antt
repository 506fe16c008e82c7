-- The job that holds maps against a configuration.
use Rattle.std.proofs.Common.{◌≡◌, ◌≢◌, ℕ, List, [], ◌∷◌, Ok, inl, inr, refl, sym, ◌∙◌, arith}
use Rattle.config_base.specs.Configs.{PlainConfig}
use Rattle.config_reader.specs.Text.{spelled as config_spelled_by}
use Rattle.run_base.specs.declared.outcome.Status.TheVariants.{BadInput}
use Rattle.run_base.specs.Said.{Said}
use Rattle.run_base.proofs.Jobs.{IsJob, IsJobSaid, in_text, in_refusal, in_failing}
use Rattle.input_texts.specs.FaultLines.{config_line, maps_line}
use Rattle.input_texts.specs.Texts.{OfRead}
use Rattle.input_texts.proofs.Spelling.{at_read, of_read, one_of_read, read_form}
use Rattle.route_maps.specs.Maps.{PlainMaps}
use Rattle.map_reader.specs.MapsRead.{spelled}
use Rattle.judging_jobs.specs.MapsJobs.{SaysOfMaps, SaysOfPair, SaysOfTexts}

-- what is said of a text of maps, beside this configuration
abbrev OfMapsText : List ℕ → PlainConfig → Said → Type 0
OfMapsText maps_bytes config what = OfRead maps_line (spelled maps_bytes) (SaysOfMaps config) what

-- ---- the form of what is said

module _ (Refuses Checks : Type 0) (refuses : Refuses) (checks : Checks) where
  maps_form : (config : PlainConfig) (maps : PlainMaps) (what : Said) → SaysOfMaps config maps what → IsJobSaid Refuses Checks what
  maps_form config maps what (inl (few, inl (same, is))) = in_text _ is
  maps_form config maps what (inl (few, inr (apart, is))) = in_failing checks _ is
  maps_form config maps what (inr many) = in_refusal refuses _ many.said

  pair_form : (config_text maps_bytes : List ℕ) (what : Said) → SaysOfPair config_text maps_bytes what → IsJobSaid Refuses Checks what
  pair_form config_text maps_bytes what h =
      read_form config_line (config_spelled_by config_text) (OfMapsText maps_bytes) Refuses Checks
      (λ config. read_form maps_line (spelled maps_bytes) (SaysOfMaps config) Refuses Checks (maps_form config)) what h

  texts_form : (bs : List (List ℕ)) (what : Said) → SaysOfTexts bs what → IsJobSaid Refuses Checks what
  texts_form [] what h = absurd h
  texts_form (x ∷ []) what h = absurd h
  texts_form (x ∷ y ∷ []) what h = pair_form x y what h
  texts_form (x ∷ y ∷ z ∷ more) what h = absurd h

-- ---- one thing is said

one_of_maps : (config : PlainConfig) (maps : PlainMaps) (one other : Said) → SaysOfMaps config maps one → SaysOfMaps config maps other → one ≡ other
one_of_maps config maps one other (inl (few, inl a)) (inl (also, inl b)) = a.1 ∙ sym b.1
one_of_maps config maps one other (inl (few, inl a)) (inl (also, inr b)) = absurd (b.0 a.0)
one_of_maps config maps one other (inl (few, inr a)) (inl (also, inl b)) = absurd (a.0 b.0)
one_of_maps config maps one other (inl (few, inr a)) (inl (also, inr b)) = a.1 ∙ sym b.1
one_of_maps config maps one other (inl a) (inr b) = absurd (omega (arith, a.0, b.many))
one_of_maps config maps one other (inr a) (inl b) = absurd (omega (arith, b.0, a.many))
one_of_maps config maps one other (inr a) (inr b) = a.said ∙ sym b.said

one_of_pair : (config_text maps_bytes : List ℕ) (one other : Said) → SaysOfPair config_text maps_bytes one → SaysOfPair config_text maps_bytes other → one ≡ other
one_of_pair config_text maps_bytes =
    one_of_read config_line (config_spelled_by config_text) (OfMapsText maps_bytes)
    (λ config config_is. one_of_read maps_line (spelled maps_bytes) (SaysOfMaps config) (λ maps maps_are. one_of_maps config maps))

one_of_texts : (bs : List (List ℕ)) (one other : Said) → SaysOfTexts bs one → SaysOfTexts bs other → one ≡ other
one_of_texts [] one other a b = absurd a
one_of_texts (x ∷ []) one other a b = absurd a
one_of_texts (x ∷ y ∷ []) one other a b = one_of_pair x y one other a b
one_of_texts (x ∷ y ∷ z ∷ more) one other a b = absurd a

pub check_map_job : (Refuses Checks : Type 0) → Refuses → Checks → IsJob Refuses Checks SaysOfTexts
check_map_job Refuses Checks refuses checks = record { form = texts_form Refuses Checks refuses checks; one = one_of_texts }

-- ---- of which configuration and maps a thing is said

-- It is said of these two texts, which spell this configuration and these maps.
pub record OfMaps (bs : List (List ℕ)) (what : Said) : Type 0 where
  pub config_text : List ℕ
  pub maps_bytes : List ℕ
  pub texts : bs ≡ config_text ∷ maps_bytes ∷ []
  pub config : PlainConfig
  pub maps : PlainMaps
  pub config_spelled : config_spelled_by config_text ≡ Ok config
  pub maps_spelled : spelled maps_bytes ≡ Ok maps
  pub says : SaysOfMaps config maps what

pub of_maps : (bs : List (List ℕ)) (what : Said) → what.status ≢ BadInput → SaysOfTexts bs what → OfMaps bs what
of_maps [] what lawful h = absurd h
of_maps (x ∷ []) what lawful h = absurd h
of_maps (x ∷ y ∷ []) what lawful h =
    let c = of_read config_line (config_spelled_by x) (OfMapsText y) what lawful h in
    let m = of_read maps_line (spelled y) (SaysOfMaps c.0) what lawful c.2 in
    record { config_text = x; maps_bytes = y; texts = refl; config = c.0; maps = m.0; config_spelled = c.1; maps_spelled = m.1; says = m.2 }
of_maps (x ∷ y ∷ z ∷ more) what lawful h = absurd h

-- and of what two texts are known to spell
pub at_maps : (config_text maps_bytes : List ℕ) (config : PlainConfig) (maps : PlainMaps) (what : Said) → config_spelled_by config_text ≡ Ok config → spelled maps_bytes ≡ Ok maps
    → SaysOfTexts (config_text ∷ maps_bytes ∷ []) what → SaysOfMaps config maps what
at_maps config_text maps_bytes config maps what config_is maps_are h =
    at_read maps_line (spelled maps_bytes) (SaysOfMaps config) maps what maps_are (at_read config_line (config_spelled_by config_text) (OfMapsText maps_bytes) config what config_is h)
