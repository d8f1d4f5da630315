-- Replays, one item more at a time.
use Rattle.std.proofs.Common.{◌≡◌, ◌≤◌, ℕ, Bool, List, [], ◌∷◌, ◌++◌, length, refl, sym, ap, subst, ◌∙◌}
use Rattle.std.proofs.lemmas.List.{append_assoc, append-nil}
use Rattle.db_image.specs.Database.{Database}
use Rattle.db_image.specs.Standing.{Standing}
use Rattle.cell_model.specs.declared.events.NodeEvent.{NodeEvent}
use Rattle.cell_model.specs.declared.events.NodeEvent.TheVariants as event
use Rattle.cell_model.specs.declared.events.Output.{Output}
use Rattle.cell_model.specs.Evaluating.{MayAllCome, Told, told_by}
use Rattle.cell_model.specs.Node.{Node, Halted, Up, Server, HaltedServer, halted_from}
use Rattle.cell_model.specs.NodeRule.{refusals, step_by}
use Rattle.cell_model.specs.Step.{Member, Stepped, outputs_of}
use Rattle.journal_model.specs.Items.{JournalItem, bits, bits_in, shorts_of}
use Rattle.journal_model.specs.Laws.{IsJournal, ItemsTellSteps, StepsKeepJournals, item_of, halted_item}
use Rattle.journal_model.specs.Replay.{AreItemsOf, IsItemOf, Replayed, item_replayed, replayed, then_replayed}
use Rattle.journal_model.proofs.Choices.{bits_agree, shorts}
use Rattle.journal_model.proofs.Telling.{step_tells}

pub replayed-append : (db : Database) (m : Member) (node : Node) (items more : List JournalItem)
    → replayed db m node (items ++ more) ≡ then_replayed (replayed db m node items) (replayed db m (replayed db m node items).node more)
replayed-append db m node [] more = refl
replayed-append db m node (item ∷ items) more =
    let first = item_replayed db m node item in
    let middle = replayed db m first.node items in
    let last = replayed db m middle.node more in
    ap (then_replayed first) (replayed-append db m first.node items more)
    ∙ ap (λ (outputs : List Output). record { node = last.node; outputs = outputs })
    (sym (append_assoc first.outputs middle.outputs last.outputs))

pub one_more : (db : Database) (m : Member) (opened node : Node) (items : List JournalItem) (outputs : List Output) (item : JournalItem)
    → replayed db m opened items ≡ record { node = node; outputs = outputs }
    → replayed db m opened (items ++ item ∷ [])
    ≡ record { node = (item_replayed db m node item).node; outputs = outputs ++ (item_replayed db m node item).outputs }
one_more db m opened node items outputs item is =
    replayed-append db m opened items (item ∷ [])
    ∙ ap (λ (r : Replayed). then_replayed r (replayed db m r.node (item ∷ []))) is
    ∙ ap (λ (later : List Output). record { node = (item_replayed db m node item).node; outputs = outputs ++ later })
    (append-nil (item_replayed db m node item).outputs)

pub items_tell_steps : ItemsTellSteps
items_tell_steps = record {
  step = λ db m opened items s outputs now e short told few is.
      (let t = step_by (told_by db told) m s now e short in
      one_more db m opened (Up s) items outputs (item_of now e told t) is
      ∙ ap (λ (u : Stepped). record { node = Up u.server; outputs = outputs ++ outputs_of u.shown })
      (step_tells (told_by db told) m s now e short (bits_in 128 (bits (shorts t.shown))) (bits_agree 128 (shorts t.shown) few)));
  halt = λ db m opened items s outputs now e is. one_more db m opened (Up s) items outputs (halted_item now e) is;
  halted = λ db m opened items h outputs now e is. one_more db m opened (Halted h) items outputs (halted_item now e) is;
}

-- ---- journals

-- one item more, at the server that those before it leave
pub items_more : (d : Standing) (m : Member) (opened : Node) (items : List JournalItem) (item : JournalItem) → AreItemsOf d m opened items
    → IsItemOf d m (replayed d.database m opened items).node item → AreItemsOf d m opened (items ++ item ∷ [])
items_more d m opened [] item all one = (one, tt)
items_more d m opened (first ∷ items) item all one =
    (all.0, items_more d m (item_replayed d.database m opened first).node items item all.1 one)

-- and back
pub items_last : (d : Standing) (m : Member) (opened : Node) (items : List JournalItem) (item : JournalItem) → AreItemsOf d m opened (items ++ item ∷ [])
    → IsItemOf d m (replayed d.database m opened items).node item
items_last d m opened [] item all = all.0
items_last d m opened (first ∷ items) item all = items_last d m (item_replayed d.database m opened first).node items item all.1

pub items_front : (d : Standing) (m : Member) (opened : Node) (items : List JournalItem) (item : JournalItem)
    → AreItemsOf d m opened (items ++ item ∷ []) → AreItemsOf d m opened items
items_front d m opened [] item all = tt
items_front d m opened (first ∷ items) item all =
    (all.0, items_front d m (item_replayed d.database m opened first).node items item all.1)

none_short : (e : NodeEvent) → 0 ≡ bits (shorts_of (outputs_of (refusals e)))
none_short (event.Packet p) = refl
none_short event.BeaconTurn = refl
none_short event.RecoverTurn = refl
none_short (event.Ask id call) = refl

module _ (d : Standing) (m : Member) (opened : Node) (items : List JournalItem) where
  -- an item that may come at this server comes behind these
  behind : (node : Node) (outputs : List Output) (item : JournalItem) → IsJournal d m opened items node outputs → IsItemOf d m node item
      → AreItemsOf d m opened (items ++ item ∷ [])
  behind node outputs item was one =
      items_more d m opened items item was.each
      (subst (λ (r : Replayed). IsItemOf d m r.node item) (sym was.leads) one)

  pub journal_steps : (s : Server) (outputs : List Output) (now : ℕ) (e : NodeEvent) (short : List Bool) (told : Told)
      → let t = step_by (told_by d.database told) m s now e short in
      length (shorts_of (outputs_of t.shown)) ≤ 128 → MayAllCome d told → IsJournal d m opened items (Up s) outputs
      → IsJournal d m opened (items ++ item_of now e told t ∷ []) (Up t.server) (outputs ++ outputs_of t.shown)
  journal_steps s outputs now e short told few may was =
      let t = step_by (told_by d.database told) m s now e short in
      let same = step_tells (told_by d.database told) m s now e short (bits_in 128 (bits (shorts t.shown))) (bits_agree 128 (shorts t.shown) few) in
      record {
        each =
            behind (Up s) outputs (item_of now e told t) was
            (record { halted = tt; short = ap (λ (u : Stepped). bits (shorts u.shown)) (sym same); may = may });
        leads = items_tell_steps.step d.database m opened items s outputs now e short told few was.leads;
      }

  pub journal_halts : (s : Server) (outputs : List Output) (now : ℕ) (e : NodeEvent) → IsJournal d m opened items (Up s) outputs
      → IsJournal d m opened (items ++ halted_item now e ∷ []) (Halted (halted_from s)) (outputs ++ outputs_of (refusals e))
  journal_halts s outputs now e was = record {
    each = behind (Up s) outputs (halted_item now e) was (record { halted = tt; short = none_short e; may = tt });
    leads = items_tell_steps.halt d.database m opened items s outputs now e was.leads;
  }

  pub journal_stays : (h : HaltedServer) (outputs : List Output) (now : ℕ) (e : NodeEvent) → IsJournal d m opened items (Halted h) outputs
      → IsJournal d m opened (items ++ halted_item now e ∷ []) (Halted h) (outputs ++ outputs_of (refusals e))
  journal_stays h outputs now e was = record {
    each = behind (Halted h) outputs (halted_item now e) was (record { halted = refl; short = none_short e; may = tt });
    leads = items_tell_steps.halted d.database m opened items h outputs now e was.leads;
  }

pub steps_keep_journals : (d : Standing) → StepsKeepJournals d
steps_keep_journals d = record {
  step = λ m opened items s outputs now e short told few may was. journal_steps d m opened items s outputs now e short told few may was;
  halt = λ m opened items s outputs now e was. journal_halts d m opened items s outputs now e was;
  halted = λ m opened items h outputs now e was. journal_stays d m opened items h outputs now e was;
}
