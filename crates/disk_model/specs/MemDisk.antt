-- What a disk in memory is seen as, and what a call of it that fails does.
use Rattle.std.specs.Prelude.{◌≡◌, ◌⊎◌, ℕ, List, length, take}
use Rattle.std.specs.Int.{div_ceil}
use Rattle.disk_model.specs.Content.{Content}
use Rattle.disk_model.specs.Plan.{Plan, fate_of}
use Rattle.disk_model.specs.Replay.{history_of}
use Rattle.disk_model.specs.declared.mem_disk.MemDisk.{MemDisk}
use Rattle.disk_model.specs.declared.plan.Fate.{Fate}
use Rattle.disk_model.specs.declared.plan.Fate.TheVariants.{Made, Torn, Stopped}

-- the contents that it had, the newest first
abbrev pub contents : MemDisk → List Content
contents disk = history_of disk.first.items disk.events.items

-- how many faults there were so far
abbrev pub faults_of : MemDisk → ℕ
faults_of disk = disk.faults

-- how many calls there were so far
abbrev pub calls_of : MemDisk → ℕ
calls_of disk = disk.plan.made

-- which of its calls fail, and how many were made
abbrev pub plan_of : MemDisk → Plan
plan_of disk = disk.plan

-- what becomes of its next call
abbrev pub next_fate : MemDisk → Fate
next_fate disk = fate_of disk.plan

-- What a failed write or cut leaves. One that is torn is made in this part, or not at all for want of memory or room. Any
-- other isn't made.
abbrev pub FailsBy : Fate → (List Content → List Content → Type 0) → List Content → List Content → Type 0
FailsBy Made Part old new = new ≡ old
FailsBy Torn Part old new = (new ≡ old) ⊎ Part old new
FailsBy Stopped Part old new = new ≡ old

-- the first half of some bytes, the middle one among them
abbrev pub first_half : List ℕ → List ℕ
first_half bytes = take (div_ceil (length bytes) 2) bytes
