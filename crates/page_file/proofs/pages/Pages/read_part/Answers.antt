use Rattle.std.proofs.Common.{◌≤◌, ◌+◌, ◌*◌, ◌∙◌, length, sym, refl, subst, arith}
use Rattle.std.proofs.lemmas.Bool.{false≢true}
use Rattle.page_file.specs.Kept.{Cached, TakesIn}
use Rattle.page_file.specs.Pages.{Known, AgreesIn}
use Rattle.page_file.proofs.Parts.{is_kept, kept_part, read_part_of, front_agrees, taken_agrees}
use Rattle.page_file.proofs.pages.Pages.read_part.Goals as goal

pub returns-then-copy-clause-bytes : goal.returns-then-copy-clause-bytes
returns-then-copy-clause-bytes g c =
    let pages : Known = record { version = c.self.inside.version; len = c.self.inside.len; cache = c.self.inside.cache } in
    let agrees = subst (λ (k : Known). AgreesIn k (g.D.Disk.files c.args.disk.now)) (sym c.self.view_is) c.requires.agrees in
    let within = subst (λ (k : Known). c.args.page * 1024 + c.args.from + length c.args.out.now ≤ k.len)
    (sym c.self.view_is) c.requires.within in
    kept_part _ pages c.args.page c.args.from (length c.args.out.now) c.copy.new.out agrees
    (is_kept c.args.page pages.cache (sym c.copy.ensures.found ∙ c.if-copy.true)) c.copy.ensures.bytes c.requires.one within

pub returns-then-copy-clause-agrees : goal.returns-then-copy-clause-agrees
returns-then-copy-clause-agrees g c =
    let pages : Known = record { version = c.self.inside.version; len = c.self.inside.len; cache = c.self.inside.cache } in
    let now : Known = record { version = c.self.inside.version; len = c.self.inside.len; cache = c.copy.new.self } in
    let agrees = subst (λ (k : Known). AgreesIn k (g.D.Disk.files c.args.disk.now)) (sym c.self.view_is) c.requires.agrees in
    front_agrees _ pages now c.args.page (record { version = refl; len = refl }) (c.copy.ensures.front c.if-copy.true) agrees

pub returns-clause-bytes : goal.returns-clause-bytes
returns-clause-bytes g c =
    let pages : Known = record { version = c.self.inside.version; len = c.self.inside.len; cache = c.self.inside.cache } in
    let agrees = subst (λ (k : Known). AgreesIn k (g.D.Disk.files c.args.disk.now)) (sym c.self.view_is) c.requires.agrees in
    let within = subst (λ (k : Known). c.args.page * 1024 + c.args.from + length c.args.out.now ≤ k.len)
    (sym c.self.view_is) c.requires.within in
    read_part_of _ pages c.args.page c.args.from
    (length c.args.out.now) _ c.copy_from_slice.new.self c.in_ok-bytes.bytes agrees c.in_ok-bytes.ensures.bytes
    c.copy_from_slice.ensures.after (omega arith) c.requires.one within

pub returns-clause-agrees : goal.returns-clause-agrees
returns-clause-agrees g c =
    let pages : Known = record { version = c.self.inside.version; len = c.self.inside.len; cache = c.self.inside.cache } in
    let now : Known = record { version = c.self.inside.version; len = c.self.inside.len; cache = c.keep.new.self } in
    let agrees = subst (λ (k : Known). AgreesIn k (g.D.Disk.files c.args.disk.now)) (sym c.self.view_is) c.requires.agrees in
    let taken = subst (λ (k : Cached). TakesIn c.args.page c.in_ok-bytes.bytes k c.keep.new.self)
    (c.copy.ensures.same c.if-copy.false) c.keep.ensures in
    taken_agrees _ _ pages now c.args.page c.in_ok-bytes.bytes (c.in_ok-bytes.ensures.reads.files false≢true)
    (record { version = refl; len = refl }) taken c.in_ok-bytes.ensures.bytes agrees
