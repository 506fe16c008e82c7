-- A printable policy can be read and built.
use Rattle.std.proofs.Common.{◌≡◌, ℕ, ◌+◌, ◌≤◌, List, [], ◌∷◌, length, arith, length-append}
use Rattle.std.specs.Prelude.{IsTrue}
use Rattle.std.specs.List.{AllByRecursion, IsDistinct}
use Rattle.std.specs.Str.{bytes_eq}
use Rattle.net_base.specs.declared.loc.LocSet.{LocSet}
use Rattle.net_base.specs.Network.{PlainNet, IsNet, sites, is_router, is_location}
use Rattle.policy_base.specs.declared.call.Call.{Call}
use Rattle.policy_base.specs.declared.call.Call.TheVariants.{Any, Drop, Internal, Link, Path, Of}
use Rattle.policy_base.specs.declared.policy.FromSet.{FromSet}
use Rattle.policy_base.specs.declared.policy.FromSet.TheVariants as from_set
use Rattle.policy_base.specs.declared.policy.Origin.{Origin}
use Rattle.policy_base.specs.Policies.{Ranking, call, calls, prefer, either, both, negated, PlainStatement}
use Rattle.policy_base.specs.CallWords.{word_of}
use Rattle.policy_text.specs.Printable.{IsCallSet, HasCallSets, has_one_set, IsWritable, IsWritableFrom, IsPrintableStatement, IsPrintableOrigin}
use Rattle.policy_text.specs.Values.{IsLocSet, sets_in, HasLocSets, HasSources, IsOriginValue, IsStatementValue}
use Rattle.std.proofs.lemmas.Bool.{ltb-true, lt-ltb}
use Rattle.list_law.proofs.Each.{AllByRecursion-both}
use Rattle.policy_text.proofs.ReadCalls.{IsFilled, set_in, IsReadable, HasOne}
use Rattle.policy_text.proofs.ReadLevels.{IsReadableRanking}
use Rattle.policy_text.proofs.ReadItems.{IsNamed, HasSources as HasNamed, IsReadableStatement}
use Rattle.policy_text.proofs.LocSets.{is_words}
use Rattle.policy_text.proofs.Lookups.{site_names}
use Rattle.policy_text.proofs.BuildSets.{IsSet, named, filled}
use Rattle.policy_text.proofs.BuildRankings.{IsFineCall, IsLike, IsFine}
use Rattle.policy_text.proofs.BuildItems.{IsFineFrom, IsFineStatement, IsFineOrigin}

pub small_net : (net : PlainNet) → IsNet net → length (sites net) ≤ 768
small_net net is = let a : length net.routers ≤ 512 = is.routers in let b : length net.peers ≤ 256 = is.peers in omega (arith, length-append net.routers net.peers, a, b)

module _ (bytes : List ℕ) (net : PlainNet) (apart : IsDistinct bytes_eq (site_names (sites net))) (small : length (sites net) ≤ 768) where
  abbrev FineSet : LocSet → Type 0
  FineSet s = IsSet bytes net apart small s

  fine_set : (s : LocSet) → IsCallSet net s → IsLocSet s → FineSet s
  fine_set s sets is = record { words = is_words s is; within = sets.0 }

  filled_set : (s : LocSet) → IsCallSet net s → IsLocSet s → IsFilled net s
  filled_set s sets is = filled bytes net apart small s (fine_set s sets is) sets.1

  fine_call : (c : Call) → HasCallSets net c → AllByRecursion IsLocSet (sets_in c) → IsFineCall bytes net apart small c
  fine_call Any sets is = (tt, omega arith)
  fine_call Drop sets is = (tt, omega arith)
  fine_call Internal sets is = (tt, omega arith)
  fine_call (Of c s) sets is = ((fine_set s sets is.0, tt), omega arith)
  fine_call (Link a b) sets is = ((fine_set a sets.0 is.0, (fine_set b sets.1 is.1.0, tt)), omega arith)
  fine_call (Path ps) sets is = (AllByRecursion-both (IsCallSet net) IsLocSet FineSet fine_set ps sets.0 is, sets.2)

  readable_call : (c : Call) → HasCallSets net c → AllByRecursion IsLocSet (sets_in c) → IsReadable bytes net c
  readable_call Any sets is = tt
  readable_call Drop sets is = tt
  readable_call Internal sets is = tt
  readable_call (Of c s) sets is = (filled_set s sets is.0, tt)
  readable_call (Link a b) sets is = (filled_set a sets.0 is.0, (filled_set b sets.1 is.1.0, tt))
  readable_call (Path ps) sets is = (sets.1, AllByRecursion-both (IsCallSet net) IsLocSet (IsFilled net) filled_set ps sets.0 is)

  only_set : (c : Call) → IsTrue (has_one_set c) → HasCallSets net c → AllByRecursion IsLocSet (sets_in c) → IsCallSet net (set_in c) × IsLocSet (set_in c)
  only_set Any one sets is = absurd (cc)
  only_set Drop one sets is = absurd (cc)
  only_set Internal one sets is = absurd (cc)
  only_set (Link a b) one sets is = absurd (cc)
  only_set (Path ps) one sets is = absurd (cc)
  only_set (Of c s) one sets is = (sets, is.0)

  -- a call of a ranked list
  abbrev Ranked : Call → Call → Type 0
  Ranked c d = (word_of d ≡ word_of c) × IsTrue (has_one_set d) × HasCallSets net d

  abbrev LocSets : Call → Type 0
  LocSets d = AllByRecursion IsLocSet (sets_in d)

  like : (c d : Call) → Ranked c d → LocSets d → IsLike bytes net apart small c d
  like c d ranked is = let x = only_set d ranked.1 ranked.2 is in (ranked.1, fine_set (set_in d) x.0 x.1, ranked.0)

  has_one : (c d : Call) → Ranked c d → LocSets d → HasOne bytes net d
  has_one c d ranked is = let x = only_set d ranked.1 ranked.2 is in (ranked.1, filled_set (set_in d) x.0 x.1)

  fine_ranking : (r : Ranking) → IsWritable net r → HasLocSets r → IsFine bytes net apart small r
  fine_ranking (call c) sets is = fine_call c sets is
  fine_ranking (calls []) sets is = absurd sets
  fine_ranking (calls (c ∷ cs)) sets is = (sets.0, AllByRecursion-both (Ranked c) LocSets (IsLike bytes net apart small c) (like c) (c ∷ cs) sets.1 is)
  fine_ranking (prefer a b) sets is = (fine_ranking a sets.0 is.0, fine_ranking b sets.1 is.1)
  fine_ranking (either a b) sets is = ((fine_ranking a sets.0.0 is.0, fine_ranking b sets.0.1 is.1), sets.1)
  fine_ranking (both a b) sets is = (fine_ranking a sets.0 is.0, fine_ranking b sets.1 is.1)
  fine_ranking (negated a) sets is = (fine_ranking a sets.0 is, sets.1)

  readable_ranking : (r : Ranking) → IsWritable net r → HasLocSets r → IsReadableRanking bytes net r
  readable_ranking (call c) sets is = readable_call c sets is
  readable_ranking (calls []) sets is = absurd sets
  readable_ranking (calls (c ∷ cs)) sets is = let all = AllByRecursion-both (Ranked c) LocSets (HasOne bytes net) (has_one c) (c ∷ cs) sets.1 is in (all.0, all.1)
  readable_ranking (prefer a b) sets is = (readable_ranking a sets.0 is.0, readable_ranking b sets.1 is.1)
  readable_ranking (either a b) sets is = (readable_ranking a sets.0.0 is.0, readable_ranking b sets.0.1 is.1)
  readable_ranking (both a b) sets is = (readable_ranking a sets.0 is.0, readable_ranking b sets.1 is.1)
  readable_ranking (negated a) sets is = readable_ranking a sets.0 is

  fine_from : (f : FromSet) → IsWritableFrom net f → HasSources f → IsFineFrom bytes net apart small f
  fine_from from_set.Any sets is = tt
  fine_from (from_set.Named s) sets is = record { words = is_words s is; within = sets.0 }

  named_from : (f : FromSet) → IsWritableFrom net f → HasSources f → HasNamed bytes net f
  named_from from_set.Any sets is = tt
  named_from (from_set.Named s) sets is = named bytes net apart small s (record { words = is_words s is; within = sets.0 }) sets.1

  pub fine_statement : (s : PlainStatement) → IsPrintableStatement net s → IsStatementValue s → IsFineStatement bytes net apart small s
  fine_statement s printable is = record { patterns = is.patterns; ranked = fine_ranking s.ranked printable.ranked is.ranked; calls = printable.calls; from = fine_from s.from printable.from is.from }

  pub readable_statement : (s : PlainStatement) → IsPrintableStatement net s → IsStatementValue s → IsReadableStatement bytes net s
  readable_statement s printable is =
      record {
        patterns = printable.patterns;
        ranked = readable_ranking s.ranked printable.ranked
            is.ranked;
        brackets = printable.brackets;
        from = named_from s.from printable.from is.from;
      }

  routers_within : (l : ℕ) → IsTrue (is_router net l) → IsTrue (is_location net l)
  routers_within l router = lt-ltb l (length net.routers + length net.peers) (omega (arith, ltb-true l (length net.routers) router))

  pub fine_origin : (o : Origin) → IsPrintableOrigin net o → IsOriginValue o → IsFineOrigin bytes net apart small o
  fine_origin o printable is = record { prefix = is.prefix; set = record { words = is_words o.at is.at; within = λ l on. routers_within l (printable.0 l on) }; routers = printable.0 }

  pub named_origin : (o : Origin) → IsPrintableOrigin net o → IsOriginValue o → IsNamed net o.at
  named_origin o printable is = named bytes net apart small o.at (record { words = is_words o.at is.at; within = λ l on. routers_within l (printable.0 l on) }) printable.1
