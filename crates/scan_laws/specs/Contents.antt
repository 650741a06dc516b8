-- The contents that a root's stamps name, and what a scan makes of them.
use Rattle.std.specs.Prelude.{◌≡◌, ℕ, Bool, List, [], ◌∷◌, Some, ⊤}
use Rattle.std.specs.FinMap as map
use Rattle.sha2.specs.Sha256.{sha256}
use Rattle.entry_tree.specs.Tree.{Names, ByPath}
use Rattle.entry_tree.specs.declared.atom.Atom.TheVariants.{File}
use Rattle.entry_tree.specs.declared.entry.Stamp.{Stamp}
use Rattle.ignore_glob.specs.Grammar.{Meaning}
use Rattle.roots_api.specs.States.{content_of}
use Rattle.roots_api.specs.Steps.{piece_of}
use Rattle.roots_api.specs.declared.answer.Answer.{Answer}
use Rattle.roots_api.specs.declared.answer.Answer.TheVariants.{Piece}
use Rattle.roots_api.specs.declared.op.Op.{Op}
use Rattle.roots_api.specs.declared.op.Op.TheVariants.{Fetch}
use Rattle.scan_cache.specs.Cache.{digest_for}
use Rattle.scan_cache.specs.declared.line.Line.{Line}
use Rattle.scan_core.specs.Scan.{ScanTold, state_of}
use Rattle.scan_laws.specs.Bounds.{heard_by}
use Rattle.scan_laws.specs.Meeting.{IsScanned}
use Rattle.scan_laws.specs.Seen.{Heard}

-- a piece that is handed in for a stamp is the piece of the stamp's content from that byte on
abbrev pub IsPieceOf : List (List ℕ) → Op → Answer (List ℕ) → Type 0
IsPieceOf ledger (Fetch path stamp offset) (Piece bytes last) = Piece bytes last ≡ piece_of (content_of ledger stamp) offset
IsPieceOf ledger op answer = ⊤

-- each piece that was handed in is one of its stamp's content in a ledger, whatever else was answered
abbrev pub ArePiecesOf : List (List ℕ) → List (Heard (List ℕ)) → Type 0
ArePiecesOf ledger [] = ⊤
ArePiecesOf ledger (h ∷ hs) = IsPieceOf ledger h.op h.answer × ArePiecesOf ledger hs

-- each line of a cache has the digest of its stamp's content in a ledger
abbrev pub LinesAreContents : List (List ℕ) → ByPath Line → Type 0
LinesAreContents ledger cache = (p : Names) (stamp : Stamp) (digest : List ℕ) → digest_for cache p stamp ≡ Some digest → digest ≡ sha256 (content_of ledger stamp)

-- Where the cache's lines and all pieces are of the contents in a ledger, whatever changes in between: each file that is seen has the digest of
-- its stamp's content.
abbrev pub FilesAreContents : Type 0
FilesAreContents =
    (m : ScanTold) (rules : List Meaning) (before after : ByPath Line) → IsScanned m rules before after → (ledger : List (List ℕ)) → LinesAreContents ledger before → ArePiecesOf ledger (heard_by m)
    → (q : Names) (digest : List ℕ) (exec : Bool) (stamp : Stamp) → map.get (state_of m).board.seen q ≡ Some (File digest exec) → map.get (state_of m).board.stamps q ≡ Some stamp
    → digest ≡ sha256 (content_of ledger stamp)

-- So has each line of the cache then.
abbrev pub LinesStayContents : Type 0
LinesStayContents =
    (m : ScanTold) (rules : List Meaning) (before after : ByPath Line) → IsScanned m rules before after → (ledger : List (List ℕ)) → LinesAreContents ledger before → ArePiecesOf ledger (heard_by m)
    → LinesAreContents ledger after
