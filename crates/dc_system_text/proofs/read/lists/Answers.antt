use Rattle.std.proofs.Common.{sym, arith}
use Rattle.std.specs.Prelude.{codes}
use Rattle.toml.specs.View.{items_view, table_view}
use Rattle.dc_order.specs.declared.limits.TheConstants.{MOST_CONCENTRATORS, MOST_LINKS}
use Rattle.dc_system_text.specs.lemmas.Limits.{count-of, tables-few, optional-few}
use Rattle.dc_system_text.proofs.read.lists.Goals as goal

pub returns-clause-few : goal.returns-clause-few
returns-clause-few c =
    omega (arith, count-of c.in_ok-concentrators.concentrators.now, tables-few c.args.top (codes "concentrator") 1 MOST_CONCENTRATORS (table_view c.args.document.now) (items_view c.in_ok-concentrators.concentrators.now) (sym c.in_ok-concentrators.ensures))

pub returns-clause-few_links : goal.returns-clause-few_links
returns-clause-few_links c =
    omega (arith, count-of c.in_ok-links.links.now, optional-few c.args.top (codes "link") MOST_LINKS (table_view c.args.document.now) (items_view c.in_ok-links.links.now) (sym c.in_ok-links.ensures))
