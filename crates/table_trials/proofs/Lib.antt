mod ImageLemmas
mod FilledLemmas
