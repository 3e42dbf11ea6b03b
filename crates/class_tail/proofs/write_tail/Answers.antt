use Rattle.known_blocks.specs.Book.{packs}
use Rattle.class_tail.proofs.Laying.{tail_past, cover_over, tables_asked, tail_laid}
use native.Mathlib.Omega.{arith}
use Rattle.class_tail.proofs.write_tail.Goals as goal

pub returns-then-p-gap-gt-HIGHEST : goal.returns-then-p-gap-gt-HIGHEST
returns-then-p-gap-gt-HIGHEST c = tail_past _ c.args.tail.chained c.requires.0 c.requires.1 c.if-p-gap-gt-HIGHEST.true c.over.ensures

pub returns-then-area-q : goal.returns-then-area-q
returns-then-area-q c = cover_over _ c.args.tail.chained c.requires.0 c.requires.1 (omega (arith, c.if-p-gap-gt-HIGHEST.false)) c.put.ensures.1 c.write_cover-q.ensures c.if-area-q.true

pub write_tables-requires : goal.write_tables-requires
write_tables-requires c =
    (c.requires.0, tables_asked (packs c.args.book.now) c.args.tail.chained c.requires.0 c.requires.1 (omega (arith, c.if-p-gap-gt-HIGHEST.false)) c.put.ensures.1 c.write_cover-q.ensures c.if-area-q.false c.requires.2)

pub returns : goal.returns
returns c = tail_laid _ c.args.tail.chained c.requires.0 c.requires.1 (omega (arith, c.if-p-gap-gt-HIGHEST.false)) c.put.ensures.1 c.write_cover-q.ensures c.if-area-q.false c.write_tables.ensures
