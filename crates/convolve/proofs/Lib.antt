-- Laws of a convolution of lines.
mod Room
