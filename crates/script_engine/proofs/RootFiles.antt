-- What the roots hold after the files of both were replaced.
use Rattle.std.proofs.Common.{◌≡◌, refl}
use Rattle.script_engine.specs.declared.flat_roots.FlatRoots.{FlatRoots}
use Rattle.script_engine.specs.declared.flat_roots.RootName.{RootName}
use Rattle.script_engine.specs.declared.flat_roots.RootName.TheVariants.{A, B}
use Rattle.script_engine.specs.World.{Files, other_root, files_of, with_files}

pub files_of_first : (roots : FlatRoots) (at : RootName) (first second : Files)
    → files_of (with_files (with_files roots at first) (other_root at) second) at ≡ first
files_of_first roots A first second = refl
files_of_first roots B first second = refl

pub files_of_second : (roots : FlatRoots) (at : RootName) (first second : Files)
    → files_of (with_files (with_files roots at first) (other_root at) second) (other_root at) ≡ second
files_of_second roots A first second = refl
files_of_second roots B first second = refl
