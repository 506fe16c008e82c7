-- What is answered about evidence: it holds, or the first rule that fails, and where.
use Rattle.std.specs.Prelude.{◌≡◌, ◌≢◌, ℕ, suc, ◌+◌, ◌-◌, ◌<◌, nat_lt, List, [], ◌∷◌, length, if◌then◌else◌}
use Rattle.net_base.specs.Network.{PlainNet}
use Rattle.policy_base.specs.Policies.{PlainPolicy}
use Rattle.config_base.specs.declared.config.RouterConfig.{RouterConfig}
use Rattle.config_base.specs.declared.config.Session.{Session}
use Rattle.config_base.specs.Configs.{PlainConfig, Key, IsBelow}
use Rattle.config_text.specs.ConfigText.{config_text}
use Rattle.text_parts.specs.Difference.{first_difference}
use Rattle.evidence_base.specs.Made.{PlainCaseEvidence, IsConfigOf}
use Rattle.evidence_law.specs.Passes.{Passes}
use Rattle.evidence_verdicts.specs.declared.rule.CheckRule.{CheckRule}
use Rattle.evidence_verdicts.specs.declared.rule.CheckRule.TheVariants.{Cases, Walks, Ranks, Mixed, PrefRank, PrefStep, PrefLoop, PrefListener, Tags, ConfigDiffers}
use Rattle.evidence_verdicts.specs.declared.verdict.Shown.{Shown}
use Rattle.evidence_verdicts.specs.declared.verdict.Verdict.{Verdict}
use Rattle.evidence_verdicts.specs.declared.verdict.Verdict.TheVariants.{Holds, Fails}
use Rattle.evidence_verdicts.specs.Rules.{rule_number, KeepsAt, Keeps}

-- ---- a rule that fails

abbrev pub at_place : ℕ → ℕ → ℕ → Key
at_place k m n = record { first = k; second = m; third = n }

-- The least place at which something fails: the least case, of that the least first node, and with it the least second one.
pub record IsFirstAt (Says : ℕ → ℕ → ℕ → Type 0) (k m n : ℕ) : Type 0 where
  pub fails : Says k m n → ⊥
  pub before : (i p q : ℕ) → IsBelow (at_place i p q) (at_place k m n) → Says i p q

abbrev pub KeepsBefore : CheckRule → PlainNet → PlainPolicy → List PlainCaseEvidence → Type 0
KeepsBefore rule net policy cs = (r : CheckRule) → rule_number r < rule_number rule → Keeps r net policy cs

-- the rule is the first one that fails, and this is where
pub record IsFault (net : PlainNet) (policy : PlainPolicy) (cs : List PlainCaseEvidence) (rule : CheckRule) (shown : Shown) : Type 0 where
  pub earlier : KeepsBefore rule net policy cs
  pub first : IsFirstAt (KeepsAt rule net policy cs) shown.case shown.first shown.second
  pub no_line : shown.line ≡ 0

-- ---- a configuration that differs

-- how many lines there are in a neighbour's block, and in a router's
abbrev pub session_lines : Session → ℕ
session_lines s = 1 + length s.imports + length s.exports

abbrev pub all_session_lines : List Session → ℕ
all_session_lines [] = 0
all_session_lines (s ∷ ss) = session_lines s + all_session_lines ss

abbrev pub router_lines : RouterConfig → ℕ
router_lines r = 2 + length r.own + all_session_lines r.sessions

-- the number, from k, of the router in whose block the line stands that comes after so many others; 0 where it's in none
abbrev pub block_after : ℕ → ℕ → List RouterConfig → ℕ
block_after k lines [] = 0
block_after k lines (r ∷ rs) = if nat_lt lines (router_lines r) then k else block_after (suc k) (lines - router_lines r) rs

-- the router in whose block a line of the text stands, 0 where it's in none
abbrev pub block_of : PlainConfig → ℕ → ℕ
block_of c line = if nat_lt line (length c.classes + 2) then 0 else block_after 0 (line - (length c.classes + 2)) c.routers

-- All other rules hold, and the configuration isn't the one that is made of the evidence. The line is the first one at which their
-- texts differ; the router is that in whose block it stands in the text that is made, 0 where in none.
pub record IsConfigFault (net : PlainNet) (policy : PlainPolicy) (config : PlainConfig) (cs : List PlainCaseEvidence) (shown : Shown) : Type 0 where
  pub earlier : KeepsBefore ConfigDiffers net policy cs
  pub made : PlainConfig
  pub lines : IsConfigOf net policy cs made
  pub differs : made ≢ config
  pub line : shown.line ≡ first_difference (config_text made) (config_text config)
  pub router : shown.first ≡ block_of made shown.line
  pub no_case : shown.case ≡ 0
  pub no_second : shown.second ≡ 0

abbrev pub IsVerdict : PlainNet → PlainPolicy → PlainConfig → List PlainCaseEvidence → Verdict → Type 0
IsVerdict net policy config cs Holds = Passes net policy config cs
IsVerdict net policy config cs (Fails ConfigDiffers shown) = IsConfigFault net policy config cs shown
IsVerdict net policy config cs (Fails Cases shown) = IsFault net policy cs Cases shown
IsVerdict net policy config cs (Fails Walks shown) = IsFault net policy cs Walks shown
IsVerdict net policy config cs (Fails Ranks shown) = IsFault net policy cs Ranks shown
IsVerdict net policy config cs (Fails Mixed shown) = IsFault net policy cs Mixed shown
IsVerdict net policy config cs (Fails PrefRank shown) = IsFault net policy cs PrefRank shown
IsVerdict net policy config cs (Fails PrefStep shown) = IsFault net policy cs PrefStep shown
IsVerdict net policy config cs (Fails PrefLoop shown) = IsFault net policy cs PrefLoop shown
IsVerdict net policy config cs (Fails PrefListener shown) = IsFault net policy cs PrefListener shown
IsVerdict net policy config cs (Fails Tags shown) = IsFault net policy cs Tags shown
