use Rattle.std.proofs.Common.{[], ◌+◌, ◌*◌, codes}
use Rattle.workload.specs.declared.pieces.TheConstants.{FOLDER_SIZE}
use Rattle.workload.specs.Script.{put_line}
use Rattle.workload.proofs.Joins.{below_more}
use Rattle.workload.proofs.script.push_files.Goals as goal

pub loop-file-preserved : goal.loop-file-preserved
loop-file-preserved c = below_more _ _ _ c.loop-file.file (λ file. put_line (codes "A") c.args.salt (FOLDER_SIZE * c.args.folder + file) []) c.loop-file.invariant c.in_ok-put_file.ensures
