use Rattle.std.proofs.Common.{◌≡◌, ◌≤◌, ◌∷◌, ℕ, List, [], Some, IfSome, ap, subst, ◌∙◌, arith}
use Rattle.std.specs.Prelude.{MatchResult}
use Rattle.std.specs.Option.{option_map}
use Rattle.ubik_types.specs.Image.{changed}
use Rattle.ubik_types.specs.declared.images.Change.{Change}
use Rattle.ubik_types.specs.declared.images.Change.TheVariants.{Put}
use Rattle.ubik_types.specs.declared.versions.Version.{Version}
use Rattle.ubik_store.specs.DurableCall.{Commits, EndsAs, IsNeverLong}
use Rattle.ubik_store.specs.Store.{IsBegunOver, changes_begun, image_in}
use Rattle.base_bench.specs.declared.store_commits.TheConstants.{LAID}
use Rattle.base_bench.proofs.Steps.{begun_one, match_ok, of_begun}
use Rattle.base_bench.proofs.store_commits.commit_block.Goals as goal

pub returns-clause-image : goal.returns-clause-image
returns-clause-image g c =
    let begun = c.begin.ensures in
    let within : c.args.at ≤ c.args.store.now.len = omega (arith, c.requires.within) in
    let over : IfSome c.begin.new.self.begun (IsBegunOver c.args.store.now.len) = subst (λ (n : ℕ). IfSome c.begin.new.self.begun (IsBegunOver n)) begun.same.len begun.sound.begun in
    let one : changes_begun c.put.new.self.begun ≡ Some (Put c.args.at LAID ∷ []) =
    begun_one c.begin.new.self.begun c.put.new.self.begun c.args.store.now.len c.args.at LAID begun.begun over c.in_ok-put.ensures.added within in
    let v : Version = record { epoch = 1; counter = c.args.counter } in
    let Ended : List Change → Type 0 = λ changes. MatchResult c.commit.result (λ _. Commits g.D.Disk changes v c.put.new.self c.commit.new.self)
    (EndsAs g.D.Disk IsNeverLong v c.put.new.self c.commit.new.self) in
    let ended = of_begun (changes_begun c.put.new.self.begun) (Put c.args.at LAID ∷ []) Ended one c.commit.ensures.ended in
    match_ok c.commit.result (Commits g.D.Disk (Put c.args.at LAID ∷ []) v c.put.new.self c.commit.new.self) _ (EndsAs g.D.Disk IsNeverLong v c.put.new.self c.commit.new.self) ended
    (λ done. done.image ∙ ap (λ (d : g.row.D.Denot). option_map (λ image. changed image (Put c.args.at LAID)) (image_in (g.D.Disk.files d))) (c.put.ensures.same.disk ∙ begun.same.disk))
