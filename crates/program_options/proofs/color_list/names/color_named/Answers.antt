use Rattle.std.proofs.Common.{sym, codes}
use Rattle.program_options.specs.ColorList.Names.{named_colors}
use Rattle.program_options.proofs.ColorListLemmas.NotNamed.{apart, none-found}
use Rattle.program_options.proofs.color_list.names.color_named.Goals as goal

pub returns-in_default : goal.returns-in_default
returns-in_default c =
    let name = c.args.name.now in
    let d = c.in_default in
    sym (none-found named_colors name (
      apart name (codes "black") d.not-black,
      (
        apart name (codes "red") d.not-red,
        (
          apart name (codes "green") d.not-green,
          (
            apart name (codes "yellow") d.not-yellow,
            (
              apart name (codes "blue") d.not-blue,
              (
                apart name (codes "magenta") d.not-magenta,
                (
                  apart name (codes "cyan") d.not-cyan,
                  (apart name (codes "white") d.not-white, (apart name (codes "bold") d.not-bold, (apart name (codes "underline") d.not-underline, tt))),
                ),
              ),
            ),
          ),
        ),
      ),
    ))
