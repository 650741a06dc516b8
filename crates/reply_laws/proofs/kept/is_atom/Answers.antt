use Rattle.std.proofs.Common.{rules, ◌≡◌, sym, subst}
use Rattle.std.specs.Str.{is_utf8}
use Rattle.std.proofs.lemmas.Bool.{and_parts}
use Rattle.std.proofs.lemmas.Str.{IsUtf8-from_is_utf8}
use Rattle.line_words.specs.Lines.{AreBytes}
use Rattle.entry_tree.specs.AtomText.{IsAtom}
use Rattle.entry_tree.specs.Digest.{IsDigest}
use Rattle.entry_tree.specs.Text.{IsText, has_text_len}
use Rattle.entry_tree.specs.declared.atom.Atom.TheVariants.{File, Link}
use Rattle.frame_text.proofs.LineWords.{utf8_is_bytes}
use Rattle.reply_laws.proofs.kept.is_atom.Goals as goal

pub returns-in-File : goal.returns-in-File
returns-in-File c =
    let e : c.args.atom.now ≡ File c.in-File.digest c.in-File.field-1 = search rules in
    let size : IsDigest c.in-File.digest = search rules in
    let bytes : AreBytes c.in-File.digest = search rules in
    subst IsAtom (sym e) (size, bytes)

pub returns-in-Link : goal.returns-in-Link
returns-in-Link c =
    let e : c.args.atom.now ≡ Link c.in-Link.text = search rules in
    let text : IsText c.in-Link.text = search rules in
    subst IsAtom (sym e) (text, utf8_is_bytes c.in-Link.text (IsUtf8-from_is_utf8 c.in-Link.text (and_parts (is_utf8 c.in-Link.text) (has_text_len c.in-Link.text) text).0))
