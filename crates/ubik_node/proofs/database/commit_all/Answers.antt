use Rattle.std.proofs.Common.{◌≡◌, ◌⊎◌, ◌∙◌, inl, inr, true, ℕ, List, Some, None, IfErr, sym, refl}
use Rattle.std.specs.Prelude.{Result, Ok, Err, MatchResult}
use Rattle.std.proofs.lemmas.Bool.{false≢true}
use Rattle.disk_base.specs.declared.disks.Disk.{Ghosts}
use Rattle.ubik_types.specs.declared.images.Change.{Change}
use Rattle.ubik_types.specs.Logged.{too_large}
use Rattle.ubik_types.specs.declared.versions.Version.{Version}
use Rattle.ubik_types.specs.Version.{version_lt}
use Rattle.ubik_store.specs.declared.faults.StoreFault.{StoreFault}
use Rattle.ubik_store.specs.declared.faults.StoreFault.TheVariants.{BadLabel, DiskFault, NoMemory, NotNewer, TooLarge}
use Rattle.ubik_store.specs.declared.stores.Store.{Store}
use Rattle.ubik_store.specs.DurableCall.{Commits, EndsAs}
use Rattle.ubik_node.proofs.database.commit_all.Goals as goal

-- changes that pass no limit, under a newer version, are refused by a fault of the disk or for want of memory
short_or_disk : {D : Type 0} (g : Ghosts D) (len : ℕ) (made changes : List Change) (v : Version) (old new : Store D) (r : Result (Unit {0}) StoreFault)
    → MatchResult r (λ _. Commits g made v old new) (EndsAs g (λ bytes. too_large 0 len changes ≡ Some bytes) v old new)
    → version_lt old.version v ≡ true → too_large 0 len changes ≡ None → IfErr r (λ fault. (fault ≡ DiskFault) ⊎ (fault ≡ NoMemory))
short_or_disk g len made changes v old new (Ok done) ends newer fits = tt
short_or_disk g len made changes v old new (Err DiskFault) ends newer fits = inl refl
short_or_disk g len made changes v old new (Err (BadLabel bytes head)) ends newer fits = absurd ends
short_or_disk g len made changes v old new (Err (TooLarge bytes)) ends newer fits = let both : None ≡ Some bytes = sym fits ∙ ends.0 in absurd cc
short_or_disk g len made changes v old new (Err (NotNewer own given)) ends newer fits = absurd (false≢true (sym ends.0.not_newer ∙ newer))
short_or_disk g len made changes v old new (Err NoMemory) ends newer fits = inr refl

pub returns-clause-memory : goal.returns-clause-memory
returns-clause-memory g c = λ fits.
    short_or_disk g.D.Disk c.args.store.now.len _ c.args.changes.now c.args.v c.args.store.now c.commit_all.new.self c.commit_all.result c.commit_all.ensures.ended
    c.requires.newer fits
