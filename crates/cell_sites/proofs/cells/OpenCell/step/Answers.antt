use Rattle.std.proofs.Common.{ap, subst, ℕ, List, ◌∙◌, arith, refl, sym, true, false}
use Rattle.std.specs.String.{string_bytes}
use Rattle.std.specs.Prelude.{All, filter_map}
use Rattle.cell_model.specs.declared.events.Output.{Output}
use Rattle.cell_model.specs.World.{packet_in}
use Rattle.cell_runs.specs.declared.endings.Ending.TheVariants as ending
use Rattle.cell_runs.specs.ScriptDatabase.{script_database}
use Rattle.cell_sites.specs.Causes.{event_at}
use Rattle.cell_sites.specs.Calls.{AnswersOf}
use Rattle.cell_sites.specs.Traffic.{sent_all}
use Rattle.cell_sites.proofs.Joined.{all_may_tell, all_sent, as_many, found_halts, found_made, keeps_still, limit_line, rises, short_line, sound_still, stop_line, stops_quiet}
use Rattle.cell_sites.proofs.Joined.{tells_halts, tells_made, told_line}
use Rattle.cell_sites.proofs.Made.{laws_of}
use Rattle.cell_sites.proofs.Soundly.{here, host_count, none_sent}
use Rattle.cell_sites.proofs.Settling.{stepped_settled}
use Rattle.cell_sites.proofs.cells.OpenCell.step.Goals as goal

pub tell_step-requires : goal.tell_step-requires
tell_step-requires g c =
    let before = c.args.self.now in
    let at = here g.D.Disk c.requires.sound.0.clock before c.args.k c.requires.up.clock c.requires.up.node c.requires.sound.1.steady
    c.requires.up.there in
    record {
      place = let few = c.requires.sound.1.steady.few in
          let count = host_count g.D.Disk c.requires.sound.0.clock before c.requires.sound.1.steady in
          let me = at.me in omega (arith, me, few, count);
      short = all_may_tell c.law_writes_spread.ensures c.step_site.new.self.outputs before.hosts.items
          (all_sent g.D.Disk (script_database g.V.DraftService.standing.database g.V.DraftWords.words) c.args.self.now
          c.step_site.new.self c.step_site.new.self
          (laws_of c.law_writes_spread.ensures c.law_replies_tell_memory.ensures) c.args.k
          (event_at c.args.self.now c.args.cause) c.step_site.result
          c.requires.sound.0.clock c.requires.sound.1.steady c.requires.sound.1.keeps
          c.requires.brought c.requires.asks c.step_site.ensures refl refl);
    }

pub returns-in-Made : goal.returns-in-Made
returns-in-Made g c =
    let hosts = c.tell_step.ensures.hosts in
    let sites = c.tell_step.ensures.sites in
    let end = c.step_site.result in
    let is = c.in-Made.is in
    record {
      told = λ ok given cell trigger stands o.
          told_line g.D.Disk (script_database g.V.DraftService.standing.database g.V.DraftWords.words) c.args.self.now
          c.step_site.new.self c.tell_step.new.self
          (laws_of c.law_writes_spread.ensures c.law_replies_tell_memory.ensures) c.args.k
          (event_at c.args.self.now c.args.cause) c.step_site.result
          c.requires.sound.0.clock c.requires.sound.1.steady c.requires.sound.1.keeps
          c.requires.brought c.requires.asks c.step_site.ensures hosts sites
          given cell stands trigger o false (tells_made c.args.k end is) (string_bytes c.args.text.now) (string_bytes c.tell_step.new.text)
          (λ shown outputs answers. c.tell_step.ensures.told ok shown outputs
          (subst (λ (calls : List (List ℕ)). All (AnswersOf calls) shown) (sym c.step_site.ensures.calls) answers)) (found_made end is)
          (c.tell_step.ensures.found (λ out. let never = sym ok ∙ out in cc)) (c.tell_step.ensures.sends ok);
      limit = λ which passed given cell trigger stands o.
          limit_line g.D.Disk (script_database g.V.DraftService.standing.database g.V.DraftWords.words) c.args.self.now c.step_site.new.self
          c.tell_step.new.self (laws_of c.law_writes_spread.ensures c.law_replies_tell_memory.ensures) c.args.k
          (event_at c.args.self.now c.args.cause) c.step_site.result
          c.requires.sound.0.clock c.requires.sound.1.steady c.requires.sound.1.keeps
          c.requires.brought c.requires.asks c.step_site.ensures hosts sites
          given cell stands trigger o (ending.Limit which) (string_bytes c.args.text.now) (string_bytes c.tell_step.new.text)
          (λ shown outputs answers. c.tell_step.ensures.limit which passed shown outputs
          (subst (λ (calls : List (List ℕ)). All (AnswersOf calls) shown) (sym c.step_site.ensures.calls) answers))
          (found_made end is) (c.tell_step.ensures.found (λ out. let never = sym passed ∙ out in cc));
      refused = c.tell_step.ensures.refused;
      short =
          λ out given cell trigger stands o. short_line g.D.Disk
          (script_database g.V.DraftService.standing.database g.V.DraftWords.words) c.args.self.now
          c.step_site.new.self c.tell_step.new.self (laws_of c.law_writes_spread.ensures c.law_replies_tell_memory.ensures) c.args.k
          (event_at c.args.self.now c.args.cause)
          c.step_site.result c.requires.sound.0.clock
          c.requires.sound.1.steady c.requires.sound.1.keeps
          c.requires.brought c.requires.asks c.step_site.ensures hosts sites given cell stands trigger o;
      steady =
          λ ok bound still. sound_still g.D.Disk (script_database g.V.DraftService.standing.database g.V.DraftWords.words) c.args.self.now
          c.step_site.new.self c.tell_step.new.self (laws_of c.law_writes_spread.ensures c.law_replies_tell_memory.ensures) c.args.k
          (event_at c.args.self.now c.args.cause)
          c.step_site.result c.requires.sound.0.clock
          c.requires.sound.1.steady c.requires.sound.1.keeps
          c.requires.brought c.requires.asks c.step_site.ensures hosts sites (c.tell_step.ensures.emptied ok) bound still;
      keeps = λ ok. keeps_still g.D.Disk (script_database g.V.DraftService.standing.database g.V.DraftWords.words) c.args.self.now
          c.step_site.new.self c.tell_step.new.self (laws_of c.law_writes_spread.ensures c.law_replies_tell_memory.ensures) c.args.k
          (event_at c.args.self.now c.args.cause)
          c.step_site.result c.requires.sound.0.clock c.requires.sound.1.steady c.requires.sound.1.keeps
          c.requires.brought c.requires.asks c.step_site.ensures hosts sites (c.tell_step.ensures.sends ok) c.tell_step.ensures.calls;
      calls = c.tell_step.ensures.calls ∙ c.step_site.ensures.calls;
      never_falls =
          rises g.D.Disk (script_database g.V.DraftService.standing.database g.V.DraftWords.words) c.args.self.now c.step_site.new.self
          c.tell_step.new.self (laws_of c.law_writes_spread.ensures c.law_replies_tell_memory.ensures) c.args.k
          (event_at c.args.self.now c.args.cause) c.step_site.result
          c.requires.sound.0.clock c.requires.sound.1.steady c.requires.sound.1.keeps
          c.requires.brought c.requires.asks c.step_site.ensures hosts sites;
      settled =
          stepped_settled g.D.Disk g.V.DraftService.standing.database c.args.k
          (event_at c.args.self.now c.args.cause) c.step_site.result c.requires.sound.0.clock
          c.args.self.now c.step_site.new.self c.tell_step.new.self c.requires.sound.1.steady c.step_site.ensures sites;
      same = as_many g.D.Disk (script_database g.V.DraftService.standing.database g.V.DraftWords.words) c.args.self.now c.step_site.new.self
          c.tell_step.new.self (laws_of c.law_writes_spread.ensures c.law_replies_tell_memory.ensures) c.args.k
          (event_at c.args.self.now c.args.cause) c.step_site.result
          c.requires.sound.0.clock c.requires.sound.1.steady c.requires.sound.1.keeps
          c.requires.brought c.requires.asks c.step_site.ensures hosts sites;
    }

pub tell_step-requires-in-Halts : goal.tell_step-requires-in-Halts
tell_step-requires-in-Halts g c =
    let before = c.args.self.now in
    let at = here g.D.Disk c.requires.sound.0.clock before c.args.k c.requires.up.clock c.requires.up.node c.requires.sound.1.steady
    c.requires.up.there in
    record {
      place = let few = c.requires.sound.1.steady.few in
          let count = host_count g.D.Disk c.requires.sound.0.clock before c.requires.sound.1.steady in
          let me = at.me in omega (arith, me, few, count);
      short = all_may_tell c.law_writes_spread.ensures c.step_site.new.self.outputs before.hosts.items
          (all_sent g.D.Disk (script_database g.V.DraftService.standing.database g.V.DraftWords.words) c.args.self.now
          c.step_site.new.self c.step_site.new.self
          (laws_of c.law_writes_spread.ensures c.law_replies_tell_memory.ensures) c.args.k
          (event_at c.args.self.now c.args.cause) c.step_site.result
          c.requires.sound.0.clock c.requires.sound.1.steady c.requires.sound.1.keeps
          c.requires.brought c.requires.asks c.step_site.ensures refl refl);
    }

pub returns-in-Halts : goal.returns-in-Halts
returns-in-Halts g c =
    let hosts = c.tell_step-in-Halts.ensures.hosts in
    let sites = c.tell_step-in-Halts.ensures.sites in
    let end = c.step_site.result in
    let is = c.in-Halts.is in
    record {
      told = λ ok given cell trigger stands o.
          told_line g.D.Disk (script_database g.V.DraftService.standing.database g.V.DraftWords.words) c.args.self.now c.step_site.new.self
          c.tell_step-in-Halts.new.self (laws_of c.law_writes_spread.ensures c.law_replies_tell_memory.ensures) c.args.k
          (event_at c.args.self.now c.args.cause) c.step_site.result
          c.requires.sound.0.clock
          c.requires.sound.1.steady c.requires.sound.1.keeps
          c.requires.brought c.requires.asks c.step_site.ensures hosts sites
          given cell stands trigger o true (tells_halts c.args.k end is) (string_bytes c.args.text.now)
          (string_bytes c.tell_step-in-Halts.new.text)
          (λ shown outputs answers. c.tell_step-in-Halts.ensures.told ok shown outputs
          (subst (λ (calls : List (List ℕ)). All (AnswersOf calls) shown) (sym c.step_site.ensures.calls) answers)) (found_halts end is)
          (c.tell_step-in-Halts.ensures.found (λ out. let never = sym ok ∙ out in cc)) (c.tell_step-in-Halts.ensures.sends ok);
      limit = λ which passed given cell trigger stands o.
          limit_line g.D.Disk (script_database g.V.DraftService.standing.database g.V.DraftWords.words) c.args.self.now c.step_site.new.self
          c.tell_step-in-Halts.new.self (laws_of c.law_writes_spread.ensures c.law_replies_tell_memory.ensures) c.args.k
          (event_at c.args.self.now c.args.cause) c.step_site.result
          c.requires.sound.0.clock
          c.requires.sound.1.steady c.requires.sound.1.keeps
          c.requires.brought c.requires.asks c.step_site.ensures hosts sites
          given cell stands trigger o (ending.Limit which) (string_bytes c.args.text.now) (string_bytes c.tell_step-in-Halts.new.text)
          (λ shown outputs answers. c.tell_step-in-Halts.ensures.limit which passed shown outputs
          (subst (λ (calls : List (List ℕ)). All (AnswersOf calls) shown) (sym c.step_site.ensures.calls) answers))
          (found_halts end is) (c.tell_step-in-Halts.ensures.found (λ out. let never = sym passed ∙ out in cc));
      refused = c.tell_step-in-Halts.ensures.refused;
      short =
          λ out given cell trigger stands o. short_line g.D.Disk
          (script_database g.V.DraftService.standing.database g.V.DraftWords.words) c.args.self.now
          c.step_site.new.self c.tell_step-in-Halts.new.self
          (laws_of c.law_writes_spread.ensures c.law_replies_tell_memory.ensures) c.args.k (event_at c.args.self.now c.args.cause)
          c.step_site.result
          c.requires.sound.0.clock c.requires.sound.1.steady c.requires.sound.1.keeps
          c.requires.brought c.requires.asks c.step_site.ensures hosts sites given cell stands trigger o;
      steady =
          λ ok bound still. sound_still g.D.Disk (script_database g.V.DraftService.standing.database g.V.DraftWords.words) c.args.self.now
          c.step_site.new.self c.tell_step-in-Halts.new.self
          (laws_of c.law_writes_spread.ensures c.law_replies_tell_memory.ensures) c.args.k (event_at c.args.self.now c.args.cause)
          c.step_site.result
          c.requires.sound.0.clock c.requires.sound.1.steady c.requires.sound.1.keeps
          c.requires.brought c.requires.asks c.step_site.ensures hosts sites (c.tell_step-in-Halts.ensures.emptied ok) bound still;
      keeps = λ ok. keeps_still g.D.Disk (script_database g.V.DraftService.standing.database g.V.DraftWords.words) c.args.self.now
          c.step_site.new.self c.tell_step-in-Halts.new.self
          (laws_of c.law_writes_spread.ensures c.law_replies_tell_memory.ensures) c.args.k (event_at c.args.self.now c.args.cause)
          c.step_site.result c.requires.sound.0.clock c.requires.sound.1.steady c.requires.sound.1.keeps
          c.requires.brought c.requires.asks c.step_site.ensures hosts sites
          (c.tell_step-in-Halts.ensures.sends ok) c.tell_step-in-Halts.ensures.calls;
      calls = c.tell_step-in-Halts.ensures.calls ∙ c.step_site.ensures.calls;
      never_falls =
          rises g.D.Disk (script_database g.V.DraftService.standing.database g.V.DraftWords.words) c.args.self.now c.step_site.new.self
          c.tell_step-in-Halts.new.self (laws_of c.law_writes_spread.ensures c.law_replies_tell_memory.ensures) c.args.k
          (event_at c.args.self.now c.args.cause) c.step_site.result
          c.requires.sound.0.clock c.requires.sound.1.steady c.requires.sound.1.keeps
          c.requires.brought c.requires.asks c.step_site.ensures hosts sites;
      settled =
          stepped_settled g.D.Disk g.V.DraftService.standing.database c.args.k
          (event_at c.args.self.now c.args.cause) c.step_site.result c.requires.sound.0.clock
          c.args.self.now c.step_site.new.self c.tell_step-in-Halts.new.self c.requires.sound.1.steady c.step_site.ensures sites;
      same = as_many g.D.Disk (script_database g.V.DraftService.standing.database g.V.DraftWords.words) c.args.self.now c.step_site.new.self
          c.tell_step-in-Halts.new.self (laws_of c.law_writes_spread.ensures c.law_replies_tell_memory.ensures) c.args.k
          (event_at c.args.self.now c.args.cause) c.step_site.result
          c.requires.sound.0.clock c.requires.sound.1.steady c.requires.sound.1.keeps
          c.requires.brought c.requires.asks c.step_site.ensures hosts sites;
    }

pub returns-in-NoMemory-clause-short : goal.returns-in-NoMemory-clause-short
returns-in-NoMemory-clause-short g c =
    λ out given cell trigger stands o. short_line g.D.Disk
    (script_database g.V.DraftService.standing.database g.V.DraftWords.words) c.args.self.now
    c.step_site.new.self c.step_site.new.self (laws_of c.law_writes_spread.ensures c.law_replies_tell_memory.ensures) c.args.k
    (event_at c.args.self.now c.args.cause) c.step_site.result
    c.requires.sound.0.clock
    c.requires.sound.1.steady c.requires.sound.1.keeps
    c.requires.brought c.requires.asks c.step_site.ensures refl refl given cell stands trigger o

pub returns-in-NoMemory-clause-never_falls : goal.returns-in-NoMemory-clause-never_falls
returns-in-NoMemory-clause-never_falls g c =
    rises g.D.Disk (script_database g.V.DraftService.standing.database g.V.DraftWords.words) c.args.self.now c.step_site.new.self
    c.step_site.new.self
    (laws_of c.law_writes_spread.ensures c.law_replies_tell_memory.ensures) c.args.k
    (event_at c.args.self.now c.args.cause) c.step_site.result c.requires.sound.0.clock
    c.requires.sound.1.steady c.requires.sound.1.keeps
    c.requires.brought c.requires.asks
    c.step_site.ensures refl refl

pub returns-in-NoMemory-clause-same : goal.returns-in-NoMemory-clause-same
returns-in-NoMemory-clause-same g c =
    as_many g.D.Disk (script_database g.V.DraftService.standing.database g.V.DraftWords.words) c.args.self.now c.step_site.new.self
    c.step_site.new.self
    (laws_of c.law_writes_spread.ensures c.law_replies_tell_memory.ensures) c.args.k
    (event_at c.args.self.now c.args.cause) c.step_site.result c.requires.sound.0.clock
    c.requires.sound.1.steady c.requires.sound.1.keeps
    c.requires.brought c.requires.asks
    c.step_site.ensures refl refl

pub returns-in_err-tell_mark-in-Stops-clause-short : goal.returns-in_err-tell_mark-in-Stops-clause-short
returns-in_err-tell_mark-in-Stops-clause-short g c =
    λ out given cell trigger stands o. short_line g.D.Disk
    (script_database g.V.DraftService.standing.database g.V.DraftWords.words) c.args.self.now
    c.step_site.new.self c.step_site.new.self (laws_of c.law_writes_spread.ensures c.law_replies_tell_memory.ensures) c.args.k
    (event_at c.args.self.now c.args.cause) c.step_site.result
    c.requires.sound.0.clock
    c.requires.sound.1.steady c.requires.sound.1.keeps
    c.requires.brought c.requires.asks c.step_site.ensures refl refl given cell stands trigger o

pub returns-in_err-tell_mark-in-Stops-clause-never_falls : goal.returns-in_err-tell_mark-in-Stops-clause-never_falls
returns-in_err-tell_mark-in-Stops-clause-never_falls g c =
    rises g.D.Disk (script_database g.V.DraftService.standing.database g.V.DraftWords.words) c.args.self.now c.step_site.new.self
    c.step_site.new.self
    (laws_of c.law_writes_spread.ensures c.law_replies_tell_memory.ensures) c.args.k
    (event_at c.args.self.now c.args.cause) c.step_site.result c.requires.sound.0.clock
    c.requires.sound.1.steady c.requires.sound.1.keeps
    c.requires.brought c.requires.asks
    c.step_site.ensures refl refl

pub returns-in_err-tell_mark-in-Stops-clause-same : goal.returns-in_err-tell_mark-in-Stops-clause-same
returns-in_err-tell_mark-in-Stops-clause-same g c =
    as_many g.D.Disk (script_database g.V.DraftService.standing.database g.V.DraftWords.words) c.args.self.now c.step_site.new.self
    c.step_site.new.self
    (laws_of c.law_writes_spread.ensures c.law_replies_tell_memory.ensures) c.args.k
    (event_at c.args.self.now c.args.cause) c.step_site.result c.requires.sound.0.clock
    c.requires.sound.1.steady c.requires.sound.1.keeps
    c.requires.brought c.requires.asks
    c.step_site.ensures refl refl

pub returns-in_ok-tell_mark-in-Stops-clause-short : goal.returns-in_ok-tell_mark-in-Stops-clause-short
returns-in_ok-tell_mark-in-Stops-clause-short g c =
    λ out given cell trigger stands o. short_line g.D.Disk
    (script_database g.V.DraftService.standing.database g.V.DraftWords.words) c.args.self.now
    c.step_site.new.self c.step_site.new.self (laws_of c.law_writes_spread.ensures c.law_replies_tell_memory.ensures) c.args.k
    (event_at c.args.self.now c.args.cause) c.step_site.result
    c.requires.sound.0.clock
    c.requires.sound.1.steady c.requires.sound.1.keeps
    c.requires.brought c.requires.asks c.step_site.ensures refl refl given cell stands trigger o

pub returns-in_ok-tell_mark-in-Stops-clause-never_falls : goal.returns-in_ok-tell_mark-in-Stops-clause-never_falls
returns-in_ok-tell_mark-in-Stops-clause-never_falls g c =
    rises g.D.Disk (script_database g.V.DraftService.standing.database g.V.DraftWords.words) c.args.self.now c.step_site.new.self
    c.step_site.new.self
    (laws_of c.law_writes_spread.ensures c.law_replies_tell_memory.ensures) c.args.k
    (event_at c.args.self.now c.args.cause) c.step_site.result c.requires.sound.0.clock
    c.requires.sound.1.steady c.requires.sound.1.keeps
    c.requires.brought c.requires.asks
    c.step_site.ensures refl refl

pub returns-in_ok-tell_mark-in-Stops-clause-same : goal.returns-in_ok-tell_mark-in-Stops-clause-same
returns-in_ok-tell_mark-in-Stops-clause-same g c =
    as_many g.D.Disk (script_database g.V.DraftService.standing.database g.V.DraftWords.words) c.args.self.now c.step_site.new.self
    c.step_site.new.self
    (laws_of c.law_writes_spread.ensures c.law_replies_tell_memory.ensures) c.args.k
    (event_at c.args.self.now c.args.cause) c.step_site.result c.requires.sound.0.clock
    c.requires.sound.1.steady c.requires.sound.1.keeps
    c.requires.brought c.requires.asks
    c.step_site.ensures refl refl

pub returns-in_ok-tell_mark-in-Stops-clause-told : goal.returns-in_ok-tell_mark-in-Stops-clause-told
returns-in_ok-tell_mark-in-Stops-clause-told g c = λ ok given cell trigger stands o.
    stop_line g.D.Disk (script_database g.V.DraftService.standing.database g.V.DraftWords.words) c.args.self.now c.step_site.new.self
    c.step_site.new.self
    (laws_of c.law_writes_spread.ensures c.law_replies_tell_memory.ensures) c.args.k
    (event_at c.args.self.now c.args.cause) c.step_site.result c.requires.sound.0.clock
    c.requires.sound.1.steady c.requires.sound.1.keeps
    c.requires.brought c.requires.asks c.step_site.ensures refl refl given cell stands trigger o c.in-Stops.is
    (string_bytes c.args.text.now)
    (string_bytes c.tell_mark.new.text) c.in_ok-tell_mark-in-Stops.ensures refl

pub returns-in_ok-tell_mark-in-Stops-clause-steady : goal.returns-in_ok-tell_mark-in-Stops-clause-steady
returns-in_ok-tell_mark-in-Stops-clause-steady g c = λ ok bound still.
    let none = stops_quiet g.D.Disk
    (script_database g.V.DraftService.standing.database g.V.DraftWords.words) c.args.self.now c.step_site.new.self
    c.step_site.new.self (laws_of c.law_writes_spread.ensures c.law_replies_tell_memory.ensures) c.args.k
    (event_at c.args.self.now c.args.cause) c.step_site.result
    c.requires.sound.0.clock c.requires.sound.1.steady c.requires.sound.1.keeps
    c.requires.brought c.requires.asks c.step_site.ensures refl refl c.in-Stops.is in
    sound_still g.D.Disk
    (script_database g.V.DraftService.standing.database g.V.DraftWords.words) c.args.self.now c.step_site.new.self c.step_site.new.self
    (laws_of c.law_writes_spread.ensures c.law_replies_tell_memory.ensures) c.args.k
    (event_at c.args.self.now c.args.cause) c.step_site.result
    c.requires.sound.0.clock c.requires.sound.1.steady c.requires.sound.1.keeps
    c.requires.brought c.requires.asks c.step_site.ensures refl refl none bound still

pub returns-in_ok-tell_mark-in-Stops-clause-keeps : goal.returns-in_ok-tell_mark-in-Stops-clause-keeps
returns-in_ok-tell_mark-in-Stops-clause-keeps g c = λ ok.
    let none = stops_quiet g.D.Disk
    (script_database g.V.DraftService.standing.database g.V.DraftWords.words) c.args.self.now c.step_site.new.self
    c.step_site.new.self (laws_of c.law_writes_spread.ensures c.law_replies_tell_memory.ensures) c.args.k
    (event_at c.args.self.now c.args.cause) c.step_site.result
    c.requires.sound.0.clock c.requires.sound.1.steady c.requires.sound.1.keeps
    c.requires.brought c.requires.asks c.step_site.ensures refl refl c.in-Stops.is in
    keeps_still g.D.Disk
    (script_database g.V.DraftService.standing.database g.V.DraftWords.words) c.args.self.now c.step_site.new.self c.step_site.new.self
    (laws_of c.law_writes_spread.ensures c.law_replies_tell_memory.ensures) c.args.k
    (event_at c.args.self.now c.args.cause) c.step_site.result
    c.requires.sound.0.clock c.requires.sound.1.steady c.requires.sound.1.keeps
    c.requires.brought c.requires.asks c.step_site.ensures refl refl (none_sent c.step_site.new.self.packets
    ∙ ap (λ (out : List Output). sent_all c.step_site.new.self.packets (filter_map packet_in out)) (sym none)) refl

pub returns-in-NoMemory-clause-calls : goal.returns-in-NoMemory-clause-calls
returns-in-NoMemory-clause-calls g c = c.step_site.ensures.calls

pub returns-in_err-tell_mark-in-Stops-clause-calls : goal.returns-in_err-tell_mark-in-Stops-clause-calls
returns-in_err-tell_mark-in-Stops-clause-calls g c = c.step_site.ensures.calls

pub returns-in_ok-tell_mark-in-Stops-clause-calls : goal.returns-in_ok-tell_mark-in-Stops-clause-calls
returns-in_ok-tell_mark-in-Stops-clause-calls g c = c.step_site.ensures.calls

pub returns-in-NoMemory-clause-settled : goal.returns-in-NoMemory-clause-settled
returns-in-NoMemory-clause-settled g c =
    stepped_settled g.D.Disk g.V.DraftService.standing.database c.args.k
    (event_at c.args.self.now c.args.cause) c.step_site.result c.requires.sound.0.clock c.args.self.now
    c.step_site.new.self c.step_site.new.self c.requires.sound.1.steady c.step_site.ensures refl

pub returns-in_err-tell_mark-in-Stops-clause-settled : goal.returns-in_err-tell_mark-in-Stops-clause-settled
returns-in_err-tell_mark-in-Stops-clause-settled g c =
    stepped_settled g.D.Disk g.V.DraftService.standing.database c.args.k
    (event_at c.args.self.now c.args.cause) c.step_site.result c.requires.sound.0.clock c.args.self.now
    c.step_site.new.self c.step_site.new.self c.requires.sound.1.steady c.step_site.ensures refl

pub returns-in_ok-tell_mark-in-Stops-clause-settled : goal.returns-in_ok-tell_mark-in-Stops-clause-settled
returns-in_ok-tell_mark-in-Stops-clause-settled g c =
    stepped_settled g.D.Disk g.V.DraftService.standing.database c.args.k
    (event_at c.args.self.now c.args.cause) c.step_site.result c.requires.sound.0.clock c.args.self.now
    c.step_site.new.self c.step_site.new.self c.requires.sound.1.steady c.step_site.ensures refl
