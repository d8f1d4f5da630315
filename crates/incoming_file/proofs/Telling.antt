-- What is said where a disk tells its files, and where a call was done.
use Rattle.std.proofs.Common.{◌≡◌, Option, Some, None, IfSome, refl, subst}
use Rattle.disk_base.specs.declared.disks.DiskEnd.{DiskEnd}
use Rattle.disk_base.specs.declared.disks.DiskEnd.TheVariants as ends
use Rattle.disk_base.specs.Crash.{Only, IsSettled}
use Rattle.disk_base.specs.Files.{Files, OnDone}

-- of a disk that tells its files
pub told : (files : Option Files) (P : Files → Type 0) → ((fs : Files) → files ≡ Some fs → P fs) → IfSome files P
told None P says = tt
told (Some fs) P says = says fs refl

-- what is said of the files of a disk is so of these
pub of_told : (files : Option Files) (fs : Files) (P : Files → Type 0) → files ≡ Some fs → IfSome files P → P fs
of_told files fs P is says = subst (λ (o : Option Files). IfSome o P) is says

pub settled_at : (files : Option Files) (fs : Files) (left : Files → Type 0) → files ≡ Some fs → IsSettled files left → Only fs left
settled_at files fs left is settled = of_told files fs (λ fs. Only fs left) is settled

-- what is said of a call that was done
pub on_done : (end : DiskEnd) (P Q : Type 0) → (P → Q) → OnDone end P → OnDone end Q
on_done ends.Done P Q also so = also so
on_done ends.Failed P Q also so = tt

pub on_done_both : (end : DiskEnd) (P Q R : Type 0) → (P → Q → R) → OnDone end P → OnDone end Q → OnDone end R
on_done_both ends.Done P Q R also p q = also p q
on_done_both ends.Failed P Q R also p q = tt
