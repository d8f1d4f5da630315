-- What a disk did in a step that first read it.
use Rattle.std.proofs.Common.{◌+◌, ⊎_elim, inl, inr, ℕ, List, IfSome, sym, ap, subst, ◌∙◌, arith}
use Rattle.disk_base.specs.declared.disks.Disk.{Ghosts}
use Rattle.disk_base.specs.Crash.{LeavesOnly}
use Rattle.disk_base.specs.Files.{Files}
use Rattle.disk_base.specs.Runs.{OnlyReads}
use Rattle.ubik_store.specs.Gaps.{IsPlain}
use Rattle.ubik_store.proofs.Telling.{told, of_told}
use Rattle.cell_model.specs.Durable.{Durable, Made}
use Rattle.ubik_node.specs.Disk.{FailsIn, LeavesWithin, Serves, StandsWithin, calls_made, has_label}

module _ {D : Type 0} (g : Ghosts D) (old mid new : D) {F : Type 0} (reads : OnlyReads g old mid F) (went : ¬ F) where
  -- what is so where the files of the disk that was read are told, is so where those before were
  before_told : {P Q : Files → Type 0} → IfSome (g.files mid) P → ((fs : Files) → P fs → Q fs) → IfSome (g.files old) Q
  before_told is so = told (g.files old) _ (λ fs at. so fs (of_told (g.files mid) fs _ (reads.files went ∙ at) is))

  leaves_before : (P : Files → Type 0) → LeavesOnly g.steps g.left_since mid new P → LeavesOnly g.steps g.left_since old new P
  leaves_before P leaves = record {
    later = omega (arith, reads.steps, leaves.later);
    each = λ c left. leaves.each c (subst (λ (t : ℕ). g.left_since new t c) (sym reads.steps) left);
    before = λ t c early left. ⊎_elim (λ was. inl (reads.crash.since_no_more t c was)) (λ has. inr has) (leaves.before t c (omega (arith, reads.steps, early)) left);
  }

  within_before : (d : Durable) (calls : List Made) → LeavesWithin g d mid new calls → LeavesWithin g d old new calls
  within_before d calls leaves = record {
    moments = before_told leaves.moments (λ fs. leaves_before (StandsWithin d calls));
    plain = λ taken. before_told (leaves.plain taken) (λ fs leave plain. leaves_before IsPlain (leave plain));
  }

  pub serves_after : (d : Durable) (calls : List Made) → Serves g d mid new calls → Serves g d old new calls
  serves_after d calls serves = record {
    leaves = within_before d calls serves.leaves;
    steps = before_told serves.steps (λ fs steps. steps ∙ ap (λ (n : ℕ). n + calls_made (has_label fs.database) calls) reads.steps);
  }

  pub fails_after : (d : Durable) (calls : List Made) → FailsIn g d mid new calls → FailsIn g d old new calls
  fails_after d calls fails = record {
    leaves = within_before d calls fails.leaves;
    whole = fails.whole;
    now = before_told fails.now (λ fs now. now);
    least = before_told fails.least (λ fs least. omega (arith, reads.steps, least));
    most = before_told fails.most (λ fs most. omega (arith, reads.steps, most));
    running = before_told fails.running (λ fs runs. rw (← reads.stop) runs);
  }
