-- What is said of the newest content of a disk, where it tells one.
use Rattle.std.proofs.Common.{List, [], ◌∷◌}
use Rattle.disk_model.specs.Content.{Content}
use Rattle.disk_model.specs.Disk.{OnTold}

-- what holds of each content
pub told : (history : List Content) (P : Content → Type 0) → ((now : Content) → P now) → OnTold history P
told [] P h = tt
told (now ∷ past) P h = h now

-- what follows from one fact
pub told_from : (history : List Content) (P Q : Content → Type 0) → ((now : Content) → P now → Q now) → OnTold history P → OnTold history Q
told_from [] P Q h p = tt
told_from (now ∷ past) P Q h p = h now p

-- what follows from two facts
pub told_from_two : (history : List Content) (P Q R : Content → Type 0) → ((now : Content) → P now → Q now → R now) → OnTold history P → OnTold history Q → OnTold history R
told_from_two [] P Q R h p q = tt
told_from_two (now ∷ past) P Q R h p q = h now p q

-- what follows from three facts
pub told_from_three : (history : List Content) (P Q R S : Content → Type 0) → ((now : Content) → P now → Q now → R now → S now) → OnTold history P → OnTold history Q → OnTold history R → OnTold history S
told_from_three [] P Q R S h p q r = tt
told_from_three (now ∷ past) P Q R S h p q r = h now p q r
