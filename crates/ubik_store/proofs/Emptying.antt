-- A discarded log is emptied: what a crash leaves meanwhile is discarded too.
use Rattle.std.proofs.Common.{◌≡◌, ◌≤◌, inl, inr, ℕ, List, [], length, take, get_or, Option, Some, None, IfSome, refl, sym, ap, subst, ◌∙◌, arith, length-take, get_or-take}
use Rattle.std.specs.Option.{option_map}
use Rattle.std.proofs.lemmas.List.{take_at, take-take}
use Rattle.disk_base.specs.declared.disks.FileNo.TheVariants.{Log}
use Rattle.disk_base.specs.Crash.{CutShort, InFile, Only, OnlyIn, LeavesOthers, IsSettled, After}
use Rattle.disk_base.specs.Files.{Files}
use Rattle.ubik_log.specs.Gate.{IsOpen}
use Rattle.ubik_log.specs.LogFile.{with_log, HasDiscarded, HasLogOrNone}
use Rattle.ubik_log.specs.LogGrammar.{IsDiscarded, new_record}
use Rattle.ubik_store.specs.Moments.{without_log}
use Rattle.ubik_store.specs.Plans.{IsBegun}

pub begun_is_open : (log : List ℕ) → IsBegun log → IsOpen log
begun_is_open log begun = sym (get_or-take 4 log 3 0 (omega arith)) ∙ ap (λ (xs : List ℕ). get_or xs 3 0) begun

pub begun_is_long : (log : List ℕ) → IsBegun log → 4 ≤ length log
begun_is_long log begun = let word : length (take 4 log) ≡ 4 = ap length begun in omega (arith, word, length-take 4 log)

-- each front of a log that does not begin with the first record of one is discarded
front_is_discarded : (log : List ℕ) (n : ℕ) → ¬ IsBegun log → IsDiscarded (take n log)
front_is_discarded log n other changes version committed =
    let word : take 4 (take n log) ≡ new_record = ap (take 4) committed.begins ∙ take_at new_record committed.rest 4 refl in
    let four : length (take 4 (take n log)) ≡ 4 = ap length word in
    let within : 4 ≤ n = omega (arith, four, length-take 4 (take n log), length-take n log) in
    other (sym (take-take 4 n log within) ∙ word)

cut_is_discarded : (log new : List ℕ) → IsDiscarded log → ¬ IsBegun log → CutShort 0 log new → IsDiscarded new
cut_is_discarded log new discarded other (inl same) = subst IsDiscarded (sym same) discarded
cut_is_discarded log new discarded other (inr short) = subst IsDiscarded (sym short.1) (front_is_discarded log (length new) other)

module _ (fs : Files) (before : Files → Type 0) (only : Only fs before) (discarded : IsDiscarded fs.log) where
  -- while it is cut
  pub discarded_by_cut : ¬ IsBegun fs.log → (c : Files) → After (InFile Log (CutShort 0)) before c → HasDiscarded fs c
  discarded_by_cut other c from =
      let is = only from.0 from.1 in
      let cut : CutShort 0 fs.log c.log = subst (λ (d : Files). CutShort 0 d.log c.log) is from.2.1 in
      (cut_is_discarded fs.log c.log discarded other cut, from.2.0 ∙ ap (with_log c.log) is)

  -- while its gate is closed, and it is cut
  pub discarded_by_end : (c : Files) → After (HasLogOrNone fs.log) before c → HasDiscarded fs c
  discarded_by_end c from =
      let is = only from.0 from.1 in
      let none : IsDiscarded c.log = elim from.2.0 [ inl same ↦ subst IsDiscarded (sym same) discarded | inr other ↦ other ] in
      (none, from.2.1 ∙ ap (with_log c.log) is)

-- nothing is pending then
pub settled_empty : (old new : Option Files) (before now : Files → Type 0) → IsSettled old before → new ≡ option_map without_log old
    → LeavesOthers Log before now → IfSome old (λ _. OnlyIn Log [] now) → IsSettled new now
unfolding LeavesOthers
settled_empty None new before now settled is others empty = let P : Option Files → Type 0 = λ o. IsSettled o now in subst P (sym is) tt
settled_empty (Some fs) new before now settled is others empty =
    let P : Option Files → Type 0 = λ o. IsSettled o now in
    subst P (sym is) (λ c here.
    let d = others.no_more c here in
    d.2 ∙ ap (with_log c.log) (settled d.0 d.1) ∙ ap (λ (log : List ℕ). with_log log fs) (empty c here))
