-- The case at a place of the case list.
use Rattle.std.proofs.Common.{◌≡◌, ℕ, ◌+◌, ◌-◌, ◌<◌, ◌≤◌, List, length, get_or, ap, ◌∙◌, arith}
use Rattle.net_base.specs.Network.{PlainNet}
use Rattle.policy_base.specs.declared.case.Case.{Case}
use Rattle.policy_base.specs.Cases.{case_list}
use Rattle.policy_base.specs.CaseNumbers.{IsCase}
use Rattle.policy_base.specs.Policies.{PlainStatement, PolicyLists, policy_of}
use Rattle.case_core.proofs.Places.{case_read}

-- the case at a place, from 0, with its statement
pub record IsPlaced (net : PlainNet) (lists : PolicyLists) (place : ℕ) (c : Case) : Type 0 where
  pub statement : PlainStatement
  pub is : IsCase net (policy_of lists) (place + 1) statement c
  pub within : c.statement ≤ length lists.statements

pub placed : (net : PlainNet) (lists : PolicyLists) (items all : List Case) (place : ℕ) (c : Case) → items ≡ all → all ≡ case_list net (policy_of lists) → place < length items
    → c ≡ get_or items place c → IsPlaced net lists place c
placed net lists items all place c same are within read =
    let before : place ≡ place + 1 - 1 = omega arith in
    let is = case_read net lists items all (place + 1) c same are (omega arith) (omega (arith, within, ap length same)) (read ∙ ap (λ n. get_or items n c) before) in
    record {
      statement = is.known.statement.0;
      is = record { case = is.at; statement = is.known.statement.1 };
      within = is.within;
    }
