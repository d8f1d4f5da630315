-- What a reading of the incoming file finds (own).
use Rattle.std.specs.Prelude.{◌≡◌, ℕ, ◌≤◌, Bool, IsTrue, List, length, take, drop, IfSome}
use Rattle.ubik_types.specs.declared.versions.Version.{Version}
use Rattle.ubik_types.specs.Version.{IsVersion}
use Rattle.disk_base.specs.declared.disks.Disk.{Ghosts}
use Rattle.disk_base.specs.declared.disks.FileNo.TheVariants.{Incoming}
use Rattle.page_file.specs.declared.label.TheConstants.{LABEL_LEN, MAX_DATABASE_LEN}
use Rattle.page_file.specs.Label.{label}
use Rattle.incoming_file.specs.declared.reads.Found.{Found}
use Rattle.incoming_file.specs.declared.reads.Found.TheVariants.{Open, Ignored}
use Rattle.incoming_file.specs.Incoming.{IsIncoming, IsIgnored, is_gated}

-- the label of a version, and an image behind it
pub record IsText (text : List ℕ) (version : Version) : Type 0 where
  pub is_version : IsVersion version
  pub labelled : take LABEL_LEN text ≡ label version
  pub long : LABEL_LEN ≤ length text
  pub fits : length text ≤ MAX_DATABASE_LEN

-- An open file: the label and the image that it stands for.
pub record FindsOpen {D : Type 0} (g : Ghosts D) (disk : D) (text : List ℕ) (version : Version) : Type 0 where
  pub is_text : IsText text version
  pub is_open : IfSome (g.files disk) (λ fs. IsIncoming fs.incoming version (drop LABEL_LEN text))

-- One that is ignored: its length, whether its gate stands open past the longest image, and room for that gate.
pub record FindsIgnored {D : Type 0} (g : Ghosts D) (disk : D) (len : ℕ) (gated : Bool) : Type 0 where
  pub ignored : IfSome (g.files disk) (λ fs. IsIgnored fs.incoming)
  pub len_is : IfSome (g.files disk) (λ fs. len ≡ length fs.incoming)
  pub gated_is : IfSome (g.files disk) (λ fs. gated ≡ is_gated fs.incoming)
  pub gate_fits : IsTrue gated → LABEL_LEN ≤ g.room disk Incoming

-- what was found is what stands there
abbrev pub Finds : {D : Type 0} → Ghosts D → D → Found → Type 0
Finds g disk (Open text version) = FindsOpen g disk text version
Finds g disk (Ignored len gated) = FindsIgnored g disk len gated
