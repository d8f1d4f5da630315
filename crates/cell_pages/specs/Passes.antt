-- One pass over every run: what is kept of the book (`B`), of each server that is up (`F`), of each durable state (`D`) and of each
-- packet (`P`), with all that has to be shown of it (own).
use Rattle.std.specs.Prelude.{◌≡◌, ℕ, ◌<◌, Bool, true, false, Some, length, slice_get}
use Rattle.ubik_types.specs.Lease.{is_in_lease}
use Rattle.ubik_types.specs.Phase.{PhaseRecord, NoPhase}
use Rattle.ubik_calls.specs.declared.packets.Body.{Body}
use Rattle.db_image.specs.Database.{Database}
use Rattle.cell_model.specs.Book.{Book}
use Rattle.cell_model.specs.Durable.{Durable}
use Rattle.cell_model.specs.Node.{Node, Down, Halted, Up, Server, opened_server}
use Rattle.cell_model.specs.Step.{Member}
use Rattle.cell_model.specs.World.{World, Site}
use Rattle.cell_pages.specs.Growth.{Grew, durable_of}
use Rattle.cell_pages.specs.Moves.{Moves}
use Rattle.cell_pages.specs.Parts.{OthersBelow}
use Rattle.cell_pages.specs.Says.{AllPackets}

-- a phase is held
abbrev pub is_held : PhaseRecord → Bool
is_held NoPhase = false
is_held _ = true

-- in the midst of a step of a server: what holds of it, of the versions of others, and of the book
abbrev pub InStep : (ℕ → Bool → Book → Server → Type 0) → (Book → Type 0) → ℕ → ℕ → Bool → Book → Server → Type 0
InStep F B k now lease book s = F k lease book s × OthersBelow k now lease book × B book

-- `F` is also said of whether the server is in lease.
pub record Pass (db : Database) (F : ℕ → Bool → Book → Server → Type 0) (D : ℕ → Book → Durable → Type 0) (P : Book → Body → Type 0)
    (B : Book → Type 0) :
    Type 0 where
  -- each move of a step of a server keeps it
  pub moves : (m : Member) (now : ℕ) (lease : Bool) → 0 < now →
      Moves db m now lease (InStep F B m.me now lease) (λ book d. D m.me book d × B book) P
  -- what a server adds to the book keeps what holds of another server, and only one of them is in lease
  pub durable : (lease : Bool) (j k : ℕ) (book later : Book) (d : Durable) → (j ≡ k → ⊥) → Grew lease k book later → D j book d →
      D j later d
  pub server : (lease own : Bool) (j k : ℕ) (book later : Book) (s : Server) → (j ≡ k → ⊥) → (own ≡ true → lease ≡ true → ⊥) →
      Grew lease k book later → F j own book s → F j own later s
  pub packet : (lease : Bool) (k : ℕ) (book later : Book) (b : Body) → Grew lease k book later → P book b → P later b
  -- a lease ends; and where it begins, no phase is held
  pub fades : (k : ℕ) (book : Book) (s : Server) → F k true book s → F k false book s
  pub begins : (k : ℕ) (book : Book) (s : Server) → is_held s.phase ≡ false → F k false book s → F k true book s
  -- a server that is opened
  pub opened : (k n now : ℕ) (lease : Bool) (book : Book) (d : Durable) → B book → D k book d → F k lease book (opened_server n d now)

-- of a server of a world of n, in any state
abbrev pub NodeKeeps : (Bool → Server → Type 0) → (n clock : ℕ) → Durable → Node → Type 0
NodeKeeps F n clock d Down = Unit {0}
NodeKeeps F n clock d (Halted h) = Unit {0}
NodeKeeps F n clock d (Up s) = (d ≡ durable_of s) × F (is_in_lease n s.starts clock) s

pub record SiteKeeps (F : Bool → Server → Type 0) (D : Durable → Type 0) (n : ℕ) (site : Site) : Type 0 where
  pub durable : D site.durable
  pub node : NodeKeeps F n site.clock site.durable site.node

-- of a world and its book
pub record WorldKeeps (F : ℕ → Bool → Book → Server → Type 0) (D : ℕ → Book → Durable → Type 0) (P : Book → Body → Type 0)
    (B : Book → Type 0) (w : World) (book : Book) :
    Type 0 where
  pub pages : B book
  pub sites : (k : ℕ) (site : Site) → slice_get w.sites k ≡ Some site →
      SiteKeeps (λ lease. F k lease book) (D k book) (length w.hosts) site
  pub packets : AllPackets (P book) w.packets
