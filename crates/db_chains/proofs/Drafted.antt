-- What one call behind another leaves of a draft, and how many bytes both ask for.

-- one change after another of a draft that keeps its length, whose bytes are counted by its blocks and its length
use Rattle.std.proofs.Common.{◌≡◌, ℕ, ◌+◌, ◌-◌, ◌≤◌, sym, ap, subst, ◌∙◌, ◌<◌}
use Rattle.db_image.specs.Draft.{Drafted}
use Rattle.db_image.specs.Images.{ReadsAtMost}
use Rattle.db_image.specs.declared.images.ImageRead.{Ghosts}
use Rattle.db_image.specs.declared.services.Layout.{Layout}
use Rattle.db_image.proofs.ReadSteps.{reads_then}
use Rattle.db_chains.specs.Ends.{DraftsAtMost, LooksAtMost}

pub drafts_on : {I : Type 0} (g : Ghosts I) (m : ℕ) (cost : Layout → ℕ → ℕ) (most : ℕ) (a b c : Drafted I) (first failed : Type 0)
    → DraftsAtMost g m a b first → b.len ≡ a.len → DraftsAtMost g (cost b.layout b.len) b c failed → m + cost a.layout a.len ≤ most
    → DraftsAtMost g most a c failed
drafts_on g m cost most a b c first failed r len s fits =
    let same : cost b.layout b.len ≡ cost a.layout a.len = ap (λ (l : Layout). cost l b.len) r.drafts.layout ∙ ap (cost a.layout) len in
    let all : ReadsAtMost g most a.image c.image failed =
    reads_then g m (cost b.layout b.len) most a.image b.image c.image first failed record { reads = r.drafts.reads; asked = r.cost }
    record { reads = s.drafts.reads; asked = s.cost } (subst (λ (n : ℕ). m + n ≤ most) (sym same) fits) in
    record { drafts = record { layout = s.drafts.layout ∙ r.drafts.layout; reads = all.reads }; cost = all.asked }

-- one change after another, whose bytes are counted by the blocks that the draft keeps
pub drafts_after : {I : Type 0} (g : Ghosts I) (m : ℕ) (cost : Layout → ℕ) (most : ℕ) (a b c : Drafted I) (first failed : Type 0)
    → DraftsAtMost g m a b first → DraftsAtMost g (cost b.layout) b c failed → m + cost a.layout ≤ most → DraftsAtMost g most a c failed
drafts_after g m cost most a b c first failed r s fits =
    let same : cost b.layout ≡ cost a.layout = ap cost r.drafts.layout in
    let all : ReadsAtMost g most a.image c.image failed =
    reads_then g m (cost b.layout) most a.image b.image c.image first failed record { reads = r.drafts.reads; asked = r.cost }
    record { reads = s.drafts.reads; asked = s.cost } (subst (λ (n : ℕ). m + n ≤ most) (sym same) fits) in
    record { drafts = record { layout = s.drafts.layout ∙ r.drafts.layout; reads = all.reads }; cost = all.asked }

pub looks_draft : {I : Type 0} (g : Ghosts I) (most : ℕ) (a b : Drafted I) (failed : Type 0) → LooksAtMost g most a b failed
    → DraftsAtMost g most a b failed
looks_draft g most a b failed r =
    record { drafts = record { layout = r.looks.same.layout; reads = r.looks.reads }; cost = r.cost }
